use Rattle.std.proofs.Common.{◌≡◌, [], ◌∷◌, lit<}
use lib.Utf8.{encode}
use Rattle.std.proofs.lemmas.Str.Ascii.{encode_ascii}
use Rattle.runfile.specs.declared.file.Action.{Action}
use Rattle.runfile.specs.declared.file.Action.TheVariants.{Start, Step, Collect, Halt}
use Rattle.runfile.specs.Format.{letter}

-- A call's letter is one byte of text.
pub encode_letter : (a : Action) → encode (letter a) ≡ letter a ∷ []
encode_letter Start = encode_ascii 98 (lit< tt)
encode_letter Step = encode_ascii 115 (lit< tt)
encode_letter Collect = encode_ascii 99 (lit< tt)
encode_letter Halt = encode_ascii 104 (lit< tt)
