-- A try of a release: the ledger's release, by what it answered.
use Rattle.std.proofs.Common.{◌≡◌, ◌+◌, ℕ, Bool, false, List, [], ◌∷◌, ◌++◌, length, refl, sym, ap, ◌∙◌, subst}
use Rattle.std.proofs.Common.{add-zero, append-nil}
use Rattle.sja_journal.specs.declared.up.Up.{Up}
use Rattle.sja_journal.specs.Lists.{Lists}
use Rattle.sja_link.specs.Looking.{Pulls, Releases, Refuses, with_gots}
use Rattle.sja_regs.specs.declared.registers.Registers.{Registers}
use Rattle.sja_steps.specs.declared.step.Step.TheVariants.{Release}
use Rattle.sja_steps.specs.declared.step_answer.StepAnswer.TheVariants.{Released as ReleasedAnswer}
use Rattle.sja_driver.specs.declared.active.Active.{Active}
use Rattle.sja_driver.specs.declared.any_driver.AnyDriver.TheVariants.{InActive}
use Rattle.sja_driver.specs.declared.driver.Driver.{Driver}
use Rattle.sja_driver.specs.Acting.{Acts, Does}
use Rattle.sja_driver.specs.AnyDrivers.{IsDriverOf}
use Rattle.sja_driver.specs.Carried.{Sees}
use Rattle.sja_driver.specs.Drivers.{link_in, held_in, off_in}
use Rattle.sja_driver.specs.Tries.Tried.{Unmet, Released}

-- items got and nothing given
pub does_pull : {E : Type 0} (stands : E → Lists → Type 0) (old new : E) (held now_held : List (List ℕ))
    (off now_off : Bool) → Pulls stands old new held now_held off now_off →
    Does stands old new held now_held off now_off [] []
does_pull stands old new held now_held off now_off p = record {
  got = p.got;
  lists = λ l s. subst (λ (xs : List Up). stands new (record l { got = l.got ++ p.got; given = xs }))
      (sym (append-nil l.given)) (p.lists l s);
  told = p.told;
  off_is = p.off_is;
}

stays : (d e : Driver Active) → link_in e ≡ link_in d → (node n : ℕ) → IsDriverOf node n (InActive d) →
    IsDriverOf node (n + 0) (InActive e)
stays d e same node n h =
    subst (λ (k : ℕ). IsDriverOf node k (InActive e)) (sym (add-zero n)) (same ∙ h)

module _ {E : Type 0} (alike : E → E → Type 0) (stands : E → Lists → Type 0) (dry full : E → Type 0)
    (old new : E) (d e : Driver Active) (same : link_in e ≡ link_in d) where
  -- a message was released
  pub released_acts : (m : List ℕ) → off_in e ≡ false →
      Releases alike stands dry old new (held_in d) (held_in e) (off_in d) (off_in e) m →
      (p : Registers) → Acts alike stands dry full old new p p Release (InActive d) (InActive e) (Released m)
  released_acts m on r p = record {
    does = record {
      got = r.pulls.got;
      lists = λ l s. r.given (with_gots l r.pulls.got) (r.pulls.lists l s);
      told = r.pulls.told;
      off_is = r.pulls.off_is;
    };
    still = tt;
    port = refl;
    fits = tt;
    sees = subst (λ (x : Bool). Sees Release x (m ∷ held_in e) (ReleasedAnswer (length m))) (sym on) refl;
    tells = tt;
    looks = record { at = r.at; same = r.same; pulls = r.pulls; all = r.all };
    waits = tt;
    kind = refl;
    out = refl;
    opens = ap (λ i. i.activation) same;
    place = stays d e same;
    quiet = tt;
  }

  -- the end gave the credit back
  pub unmet_acts : Pulls stands old new (held_in d) (held_in e) (off_in d) (off_in e) →
      (off_in e ≡ false) × Refuses alike stands dry full old (off_in e) (held_in e) →
      (p : Registers) → Acts alike stands dry full old new p p Release (InActive d) (InActive e) Unmet
  unmet_acts pulls refuses p = record {
    does = does_pull stands old new (held_in d) (held_in e) (off_in d) (off_in e) pulls;
    still = tt;
    port = refl;
    fits = tt;
    sees = tt;
    tells = tt;
    looks = tt;
    waits = refuses;
    kind = tt;
    out = refl;
    opens = ap (λ i. i.activation) same;
    place = stays d e same;
    quiet = tt;
  }
