use Rattle.std.proofs.Common.{rules, refl, ◌≡◌, ◌∷◌, [], Ok, ◌∙◌}
use Rattle.hex.specs.Hex.{decode_sized}
use Rattle.hex.proofs.HexLemmas.{decode_of-ok, decode_sized-twice}
use Rattle.sja_plan_reading.proofs.word.byte.Goals as goal

pub returns-in-Err-clause-err : goal.returns-in-Err-clause-err
returns-in-Err-clause-err c = (
  refl,
  λ b is.
      let sized : decode_sized c.args.word.now 1 ≡ Ok (b ∷ []) =
      decode_sized-twice c.args.word.now 1 (decode_of-ok c.args.word.now (b ∷ []) is).2 ∙ is in
      let gives : c.from_hex.result ≡ Ok (b ∷ []) = c.from_hex.ensures ∙ sized in
      search rules,
)
