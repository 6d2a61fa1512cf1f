use Rattle.encoder.proofs.Lengths.{length_without_address, answer_is_length}
use Rattle.encoder.proofs.encoding.encode.Goals as goal

pub returns-in_default-clause-no_address : goal.returns-in_default-clause-no_address
returns-in_default-clause-no_address g c = length_without_address

pub returns-in_default-clause-lengths : goal.returns-in_default-clause-lengths
returns-in_default-clause-lengths g c = answer_is_length

pub returns-in-Err-clause-no_address : goal.returns-in-Err-clause-no_address
returns-in-Err-clause-no_address g c = length_without_address

pub returns-in-Err-clause-lengths : goal.returns-in-Err-clause-lengths
returns-in-Err-clause-lengths g c = answer_is_length

pub returns-clause-no_address : goal.returns-clause-no_address
returns-clause-no_address g c = length_without_address

pub returns-clause-lengths : goal.returns-clause-lengths
returns-clause-lengths g c = answer_is_length
