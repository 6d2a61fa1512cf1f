use Rattle.std.specs.Prelude.{ℕ, true, false, cond, ◌||◌, List, Some, None, codes, Option, ◌==◌}
use Rattle.std.specs.Str.{bytes_eq}
use Rattle.numerals.specs.declared.Radix.TheVariants.{Hexadecimal}
use Rattle.record.specs.declared.head.EvexHead.{EvexHead}
use Rattle.record.specs.declared.head.Head.{Head}
use Rattle.record.specs.declared.head.Head.TheVariants.{Legacy, Vex, Evex}
use Rattle.record.specs.declared.head.LegacyHead.{LegacyHead}
use Rattle.record.specs.declared.head.VexHead.{VexHead}
use Rattle.text.specs.Values.{whole_of}

-- the byte that a text is in hexadecimal
abbrev byte : List ℕ → Option ℕ
byte t = whole_of Hexadecimal t 255

-- a head by its first word, with nothing said of it yet
abbrev pub head_named : List ℕ → Option Head
head_named w =
    cond (bytes_eq w (codes "legacy")) (Some (Legacy record { table_byte1 = 0; table_byte2 = 0; mandatory_prefix = 0 })) (
    cond (bytes_eq w (codes "vex")) (Some (Vex record { table = 0; last_byte = 0; mask_w_l = 0; mask_l = 0; w1 = false })) (
    cond (bytes_eq w (codes "evex")) (Some (Evex record { table = 0; p1_bits = 0; ll_bits = 0; mask_w = 0; mask_ll = 0 })) None))

-- a legacy head with one of its usual bytes, which goes where it belongs
abbrev pub legacy_byte : LegacyHead → ℕ → Option LegacyHead
legacy_byte h b =
    cond (b == 0x0F) (Some (record h { table_byte1 = b })) (
    cond (b == 0x38 || b == 0x3A) (Some (record h { table_byte2 = b })) (
    cond (b == 0x66 || (b == 0xF2 || b == 0xF3)) (Some (record h { mandatory_prefix = b })) None))

abbrev legacy_value : LegacyHead → List ℕ → List ℕ → Option LegacyHead
legacy_value h k a =
    cond (bytes_eq k (codes "table1")) (elim (byte a) [ Some b ↦ Some (record h { table_byte1 = b }) | None ↦ None ]) (
    cond (bytes_eq k (codes "table2")) (elim (byte a) [ Some b ↦ Some (record h { table_byte2 = b }) | None ↦ None ]) (
    cond (bytes_eq k (codes "prefix")) (elim (byte a) [ Some b ↦ Some (record h { mandatory_prefix = b }) | None ↦ None ]) None))

-- a legacy head with one word more, by its key, mark and argument
abbrev pub legacy_word : LegacyHead → List ℕ → Option ℕ → List ℕ → Option LegacyHead
legacy_word h k None a = elim (byte k) [ Some b ↦ legacy_byte h b | None ↦ None ]
legacy_word h k (Some m) a = cond (m == 61) (legacy_value h k a) None

abbrev vex_value : VexHead → List ℕ → List ℕ → Option VexHead
vex_value h k a =
    cond (bytes_eq k (codes "table")) (elim (byte a) [ Some b ↦ Some (record h { table = b }) | None ↦ None ]) (
    cond (bytes_eq k (codes "last")) (elim (byte a) [ Some b ↦ Some (record h { last_byte = b }) | None ↦ None ]) (
    cond (bytes_eq k (codes "mask_w_l")) (elim (byte a) [ Some b ↦ Some (record h { mask_w_l = b }) | None ↦ None ]) (
    cond (bytes_eq k (codes "mask_l")) (elim (byte a) [ Some b ↦ Some (record h { mask_l = b }) | None ↦ None ]) None)))

-- a VEX head with one word more
abbrev pub vex_word : VexHead → List ℕ → Option ℕ → List ℕ → Option VexHead
vex_word h k None a = cond (bytes_eq k (codes "w1")) (Some (record h { w1 = true })) None
vex_word h k (Some m) a = cond (m == 61) (vex_value h k a) None

abbrev evex_value : EvexHead → List ℕ → List ℕ → Option EvexHead
evex_value h k a =
    cond (bytes_eq k (codes "table")) (elim (byte a) [ Some b ↦ Some (record h { table = b }) | None ↦ None ]) (
    cond (bytes_eq k (codes "p1")) (elim (byte a) [ Some b ↦ Some (record h { p1_bits = b }) | None ↦ None ]) (
    cond (bytes_eq k (codes "ll")) (elim (byte a) [ Some b ↦ Some (record h { ll_bits = b }) | None ↦ None ]) (
    cond (bytes_eq k (codes "mask_w")) (elim (byte a) [ Some b ↦ Some (record h { mask_w = b }) | None ↦ None ]) (
    cond (bytes_eq k (codes "mask_ll")) (elim (byte a) [ Some b ↦ Some (record h { mask_ll = b }) | None ↦ None ]) None))))

-- an EVEX head with one word more
abbrev pub evex_word : EvexHead → List ℕ → Option ℕ → List ℕ → Option EvexHead
evex_word h k None a = None
evex_word h k (Some m) a = cond (m == 61) (evex_value h k a) None

-- a head with one word more
abbrev pub head_word : Head → List ℕ → Option ℕ → List ℕ → Option Head
head_word (Legacy h) k m a = elim (legacy_word h k m a) [ Some g ↦ Some (Legacy g) | None ↦ None ]
head_word (Vex h) k m a = elim (vex_word h k m a) [ Some g ↦ Some (Vex g) | None ↦ None ]
head_word (Evex h) k m a = elim (evex_word h k m a) [ Some g ↦ Some (Evex g) | None ↦ None ]
