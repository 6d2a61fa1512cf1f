-- The examples, by computation.
use Rattle.std.proofs.Common.{refl}
use Rattle.std.specs.Int.Count.{ones}
use Rattle.catalogue.specs.Built.{built_rows}
use Rattle.catalogue.specs.Meaning.{row_of}
use Rattle.instruction.specs.Making.{size_made, kind_made, scale_made, opmask_made, rounding_made, register_made, segment_made}
use Rattle.machine.specs.Registers.{register_of}
use Rattle.policy.specs.Lowest.{lowest, lowest_from}
use Rattle.gather.specs.Address.{address_bytes}
use Rattle.gather.specs.Gathered.{start, place_step, gathered}
use Rattle.gather.specs.Memory.{mem_checked, rip_mem, displ_checked, offset_mem, address_of, based_mem, is_bare, ranged_mem, mem}
use Rattle.gather.specs.Steps.{rm_memory, op_step}
use Rattle.encoder.specs.Encode.{head_bytes, head_fault, address_behind, code_bytes, displ_bytes_onto, rip_far, imm_bytes_onto, branch_far, base_alone, vsib_bare, memory_at, uses_memory, rounded_memory, line_bytes, line_fault, steps_of, encode_of}
use Rattle.encoder.specs.Fields.{opcode_onto, mod_rm_onto, displ_onto, imm_onto}
use Rattle.encoder.specs.Heads.{prefixes_onto, legacy_onto, vex_onto, evex_onto}
use Rattle.worked.specs.Examples.{ExamplesComeOut}

pub examples_come_out : ExamplesComeOut
unfolding ones built_rows row_of size_made kind_made scale_made opmask_made rounding_made register_made segment_made register_of lowest lowest_from address_bytes start place_step gathered mem_checked rip_mem displ_checked offset_mem address_of based_mem is_bare ranged_mem mem rm_memory op_step head_bytes head_fault address_behind code_bytes displ_bytes_onto rip_far imm_bytes_onto branch_far base_alone vsib_bare memory_at uses_memory rounded_memory line_bytes line_fault steps_of encode_of opcode_onto mod_rm_onto displ_onto imm_onto prefixes_onto legacy_onto vex_onto evex_onto
examples_come_out = ((refl, refl), ((refl, refl), ((refl, refl), ((refl, refl), ((refl, refl), ((refl, refl), ((refl, refl), ((refl, refl), ((refl, refl), ((refl, refl), ((refl, refl), ((refl, refl), ((refl, refl), ((refl, refl), tt))))))))))))))
