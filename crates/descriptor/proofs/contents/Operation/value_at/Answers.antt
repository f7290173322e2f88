use Rattle.std.proofs.Common.{◌∙◌, rules}
use Rattle.descriptor.specs.Contents.{value_among}
use Rattle.descriptor.proofs.Values.{value_of_found}
use Rattle.descriptor.proofs.contents.Operation.value_at.Goals as goal

pub returns-in_default : goal.returns-in_default
unfolding value_among
returns-in_default c = search rules

pub returns : goal.returns
returns c = let found = c.value_among.ensures ∙ value_of_found c.args.self.now.state c.as_slice.result.now c.args.word in search rules
