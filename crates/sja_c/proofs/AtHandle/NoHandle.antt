-- The call by which a null handle is answered: it asks for nothing, and gives that answer.
use Rattle.sja_c.proofs.Walks.{◌≡◌, [], ◌∷◌, refl, Ura, SProp, ent, sep, via, ftrue, Val, Model, Wired, Logic, Item, ‵}
use Rattle.sja_c.proofs.Walks.{raw, ◌⊛◌, some, later, ◌$◌, ◌∵◌, !, qed, done, move, drop, split, join, pick, await}
use Rattle.sja_c.proofs.Walks.{fact, Running, MachineTables, tables, Is, shows, lone, nothing, heard, peeks, lasts}
use Rattle.sja_c.proofs.Walks.{triple_of, Contract, framed}
use base.Logic.{emp, emp∗, comm∗, fst∗}
use types.Kit.{mean, given, rewrite, updating, now, check}
use denote.Triple.Statement.{Triple}
use Rattle.std.proofs.cell.Inside.{Good}
use Rattle.sja_c.proofs.answer.SjaAnswer.TheLaws as laws
use Rattle.sja_c.proofs.answer.no_handle.Met as none_met
use Rattle.sja_c.proofs.answer.no_handle.Symbol as none_is
use Rattle.sja_c.specs.Answers.{answer, no_handle_status}
use Rattle.sja_c.specs.contracts.answer.SjaAnswer.{the_row as Out}
use Rattle.sja_c.specs.contracts.answer.no_handle as none
use Rattle.sja_c.specs.declared.answer.SjaAnswer.{SjaAnswer}

abbrev pub none_answer : SjaAnswer
none_answer = answer no_handle_status 0

module _ {M : Type 1} (𝓤 : Ura M) (𝓛 : Logic 𝓤) (𝓜 : Model 𝓤 𝓛.H) (𝓡 : Running 𝓤 𝓛.H 𝓜)
    (wired : Wired 𝓡.env none_is.code) where
  abbrev 𝓣 : MachineTables 𝓤 𝓛.H 𝓜
  𝓣 = tables 𝓤 𝓛.H 𝓜 𝓡 𝓡.env

  abbrev pub Answered : Val → Item 𝓤
  Answered v = later (given (Good (lone Out.mir) v) (‵ (Out.own_val none_answer (v ∷ []))))

  abbrev pub Nothing : Contract 𝓤
  Nothing = record { Ghost = Unit {0}; args = λ u. []; pre = λ u. emp 𝓤; post = λ u v. mean 𝓛 (Answered v) }

  abbrev G : Contract 𝓤
  G = triple_of 𝓛 none.signature (none.spec 𝓛 𝓜.mem 𝓡.returns)

  abbrev y : G.Ghost
  y = ((tt, tt, tt, tt, tt), tt)

  asks : ent 𝓤 (emp 𝓤) (G.pre y)
  asks = qed 𝓛 [] ∵ nothing ! $ nothing ! $ join ! $ nothing ! $ move ! (1 ∷ 0 ∷ []) $ done !

  gives : (v : Val) → ent 𝓤 (G.post y v) (mean 𝓛 (Answered v))
  gives v = qed 𝓛 (later (some (λ (r : SjaAnswer). (‵ ftrue ⊛ ‵ (Out.own_val r (v ∷ []))) ⊛
      some (λ (ws : Unit {0}). ‵ (lasts none.ended tt tt ws) ⊛ raw (fact 𝓤 (r ≡ none_answer))))) ∷ []) ∵
      updating ! $ await ! tt $ pick ! (λ r. split ! $ split ! $ drop ! $ move ! (1 ∷ []) $
      pick ! (λ ws. split ! $ drop ! $ heard ! _ (λ said.
      rewrite ! 0 (λ (x : SjaAnswer). ‵ (Out.own_val x (v ∷ []))) said refl $
      peeks ! Out (Is Out) (shows 𝓛 Out) none_answer (v ∷ []) (λ is.
      now ! $ check ! ((laws.the_row_laws.lawful 𝓛).typed none_answer _ is).0 $ done !))))

  pub answers_none : Triple 𝓤 (𝓣.C none_is.name) Nothing
  answers_none u =
      let Called : SProp 𝓤 = 𝓣.C none_is.name [] (G.post y) in
      via 𝓤 (sep 𝓤 Called (emp 𝓤)) (via 𝓤 Called (via 𝓤 (G.pre y) asks (none_met.met 𝓤 𝓛 𝓜 𝓡 wired y))
      (via 𝓤 (sep 𝓤 (emp 𝓤) Called) (emp∗ 𝓤 Called) (comm∗ 𝓤 (emp 𝓤) Called)))
      (framed 𝓤 𝓛.H 𝓜 𝓣 none_is.name [] (G.post y) (λ v. mean 𝓛 (Answered v)) (emp 𝓤)
      (λ v. via 𝓤 (G.post y v) (fst∗ 𝓤 (G.post y v) (emp 𝓤)) (gives v)))
