use Rattle.std.proofs.Common.{◌≡◌, ℕ, ◌+◌, ◌-◌, ◌≤◌, length}
use Rattle.text.specs.Rows.{words_from, draft_of}
use Rattle.text.proofs.parsing.drafted.Given as goal

abbrev pub invariant-loop-at : goal.invariant-loop-at
invariant-loop-at l = (n : ℕ) × (length l.line ≤ l.at + n) × (words_from n l.draft l.line l.at ≡ draft_of l.line)

abbrev pub decreases-loop-at : goal.decreases-loop-at
decreases-loop-at l = length l.line - l.at
