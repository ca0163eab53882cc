-- What a step has seen, beside all that was put.
use Rattle.std.proofs.Common.{◌≡◌, ℕ, ◌≤◌, Bool, true, false, List, [], ◌++◌, length, map, refl, sym, ap, ◌∙◌}
use Rattle.std.proofs.Common.{append_assoc, append-nil, arith, inl, inr}
use Rattle.sja_journal.specs.declared.down.Down.{Down}
use Rattle.sja_journal.specs.declared.entry.Entry.{Entry}
use Rattle.sja_journal.specs.Lists.{messages, on, is_on}
use Rattle.sja_link.specs.Deques.{Deques, Lies, queues_on, down_on, left_on, IsDryDown}
use Rattle.sja_link.specs.Looking.{IsTaken, Holds, off_among}
use Rattle.sja_journal.specs.Accounts.{account}
use Rattle.sja_journal.specs.Places.{place_of}
use Rattle.sja_journal.specs.Parts.{part}
use Rattle.sja_journal.specs.Carried.{put_of}
use Rattle.sja_link.proofs.Ledger.Pullings.{off_both, off_stays}
use Rattle.sja_link.proofs.JournalEntries.ListCounts.{messages_both}
use Rattle.sja_driver.specs.Acting.{Looks}
use Rattle.sja_driver.specs.TypedActs.{TypedAct, opened_by, released_lengths, acts_of}
use Rattle.sja_driver.specs.Windows.{off_by, window_of}
use Rattle.sja_promises.proofs.Trace.Windows.{window_now, off_now}
use Rattle.sja_driver.proofs.Trace.Timings.{put_now}

-- what is known of bus-off, and of the messages where it isn't known
pub record IsShown (j : List Entry) (acts : List TypedAct) (off : Bool) (window : List (List ℕ)) : Type 0 where
  pub off_is : off_by (place_of j).bits j (opened_by acts) ≡ off
  pub window_is : off ≡ false → window_of j acts (place_of j).bits ≡ window

-- a look at the link of the present activation, which has queues, where what is held is what was got and not released,
-- and it is less than what a link carries
pub is_shown : {alike : Deques → Deques → Type 0} (j : List Entry) (acts : List TypedAct) (old : Deques)
    (got : List Down)
    (given : List _)
    (released held window : List (List ℕ)) (off now_off : Bool) →
    Lies old (opened_by acts) (account j (opened_by acts) (record { got = got; given = given })) →
    Holds got released held →
    off ≡ off_among false got →
    released_lengths (acts_of acts (opened_by acts)) ≡ map (λ (m : List ℕ). length m) released →
    ((all down : List Down) → put_of (part j (opened_by acts)) ≡ all ++ down → Holds all released window →
    length window ≤ 21) →
    (look : Looks alike (on Lies (opened_by acts)) (is_on IsDryDown (opened_by acts)) old held window off now_off) →
    look.at.first ≤ opened_by acts → IsShown j acts now_off window
is_shown j acts old got given released held window off now_off lies holds known lengths few look used =
    let p = look.pulls in
    let put : put_of (part j (opened_by acts)) ≡ (got ++ p.got) ++ down_on look.at (opened_by acts) =
    (p.lists (account j (opened_by acts) (record { got = got; given = given })) lies).down in
    let now : now_off ≡ off_among false (got ++ p.got) = p.off_is ∙ ap (λ b. off_among b p.got) known
    ∙ sym (off_both false got p.got) in
    let told : Holds (got ++ p.got) released window =
    messages_both got p.got ∙ ap (λ l. l ++ messages p.got) holds ∙ append_assoc released held (messages p.got)
    ∙ ap (λ l. released ++ l) (sym p.told) in
    over now_off refl look.all put now told
  where
    -- all that was put was got
    all_got : (b : Bool) (at : List Down) (all_of : List Down) → at ≡ [] →
        put_of (part j (opened_by acts)) ≡ all_of ++ at → b ≡ off_among false all_of → Holds all_of released window →
        IsShown j acts b window
    all_got b at all_of none put now told =
        let same : all_of ≡ put_of (part j (opened_by acts)) = sym
        (put ∙ ap (λ l. all_of ++ l) none ∙ append-nil all_of) in record {
          off_is = off_now j (opened_by acts) all_of same ∙ sym now;
          window_is = λ e. window_now j acts all_of released window same told lengths;
        }

    lying : List Down
    lying = down_on look.at (opened_by acts)

    none_left : left_on look.at.older (opened_by acts) ≡ []
    none_left = (look.pulls.lists _ lies).links.none_left (opened_by acts) (inr used)

    over : (b : Bool) → now_off ≡ b → IsTaken (is_on IsDryDown (opened_by acts)) look.at now_off window →
        put_of (part j (opened_by acts)) ≡ (got ++ look.pulls.got) ++ lying →
        now_off ≡ off_among false (got ++ look.pulls.got) → Holds (got ++ look.pulls.got) released window →
        IsShown j acts now_off window
    over true is all put now told = record {
      off_is =
          ap (off_among false) (put_now j (opened_by acts) ∙ put) ∙ off_both false (got ++ look.pulls.got) lying
          ∙ ap (λ b. off_among b lying) (sym now ∙ is) ∙ off_stays lying ∙ sym is;
      window_is = λ e. absurd (wrong is e);
    }
      where
        wrong : now_off ≡ true → now_off ≡ false → ⊥
        wrong p q = cc
    over false is (inl known) put now told = absurd (wrong is known)
      where
        wrong : now_off ≡ false → now_off ≡ true → ⊥
        wrong p q = cc
    over false is (inr (inl many)) put now told = let l = few (got ++ look.pulls.got) lying put told in
        absurd (omega (arith, l, many))
    over false is (inr (inr dry)) put now told = all_got now_off lying (got ++ look.pulls.got)
        (ap (λ l. l ++ (queues_on look.at (opened_by acts)).down) none_left ∙ dry) put now told
