-- The text of all bits so far.
use Rattle.std.proofs.Common.{◌≡◌, ℕ, ◌+◌, ◌≤◌, zero, suc, List, [], ◌++◌, length, sym, ap, ◌∙◌, subst, subst₂, arith}
use Rattle.std.proofs.Common.{append-nil, append_assoc}
use Rattle.std.proofs.lemmas.Slice.Zip.{AllZip-long}
use Rattle.lemmas.specs.Related.{EachRelated}
use Rattle.lemmas.proofs.Related.{each_refl, each_trans}
use Rattle.sja_log.specs.Log.{NodeValue, RunValue}
use Rattle.text_wave.specs.declared.probe.Probe.{Probe}
use Rattle.text_wave.specs.Stories.{NodeStory, IsStory}
use Rattle.text_wave.specs.WaveText.{time_line, timed, declarations, first_values, changes_after, changes_to}
use Rattle.text_wave.specs.WaveText.{changes_of, IsWave}
use Rattle.text_wave.specs.Inside.Changes.{all_values, all_changes}
use Rattle.text_wave.specs.Inside.Probes.{IsAtBit, IsSameTo, GoesOn, Finishes, AreFirst, HaveGone, HaveEnded, ShowsAll}
use Rattle.text_wave.specs.Inside.WaveRest.{AllRest, ProbeRested}
use Rattle.text_wave.proofs.BitByBit.Going.{same_refl, same_trans, all_less, same_nodes, all_show, all_on, all_told}
use Rattle.text_wave.proofs.BitByBit.Going.{all_reading}
use Rattle.text_wave.proofs.BitByBit.Rested.{states, states_first, states_last, states_go, all_none}
use Rattle.text_wave.proofs.SoFar.Written.{first_are, changes_are}

-- ---- bit after bit

pub gone_first : (first : List NodeStory) (probes : List Probe) (text : List ℕ) →
    EachRelated (IsAtBit 0) probes first → HaveGone 0 first probes text text
gone_first first probes text at = record {
  parts = first;
  at = at;
  same = each_refl (IsSameTo 0) (same_refl 0) first;
  text_is = λ stories same. sym (append-nil text);
}

-- one bit more: whatever stories come of the parts, the text before begins them, and these are the bit's changes
record OneMore (k : ℕ) (first : List NodeStory) (news : List Probe) (start old : List ℕ) : Type 0 where
  parts : List NodeStory
  at : EachRelated (IsAtBit (suc k)) news parts
  same : EachRelated (IsSameTo 0) first parts
  begins : (stories : List NodeStory) → EachRelated (IsSameTo (suc k)) parts stories →
      old ≡ start ++ changes_to k stories
  changes : (stories : List NodeStory) → EachRelated (IsSameTo (suc k)) parts stories →
      all_changes news ≡ changes_after k stories

one_more : (k : ℕ) (first : List NodeStory) (olds news : List Probe) (start old : List ℕ) →
    HaveGone k first olds start old → EachRelated GoesOn olds news → OneMore k first news start old
one_more k first olds news start old gone on =
    let all = all_on k olds news gone.parts gone.at on in record {
      parts = all.stories;
      at = all.at;
      same = each_trans (IsSameTo 0) (same_trans 0) first gone.parts all.stories gone.same
          (all_less 0 k gone.parts all.stories (omega arith) all.same);
      begins = λ stories same.
          gone.text_is stories (each_trans (IsSameTo k) (same_trans k) gone.parts all.stories stories all.same
          (all_less k (suc k) all.stories stories (omega arith) same));
      changes = λ stories same. changes_are k news stories (all_show (suc k) news all.stories stories all.at same);
    }

pub gone_more : (k n : ℕ) (first : List NodeStory) (olds news : List Probe) (start old new : List ℕ) → n ≡ suc k →
    HaveGone k first olds start old → EachRelated GoesOn olds news → new ≡ old ++ timed n (all_changes news) →
    HaveGone n first news start new
gone_more k n first olds news start old new number gone on wrote =
    let one = one_more k first olds news start old gone on in
    let P : ℕ → Type 0 = λ m. HaveGone m first news start new in
    subst P (sym number) (record {
      parts = one.parts;
      at = one.at;
      same = one.same;
      text_is = λ stories same.
          (wrote ∙ ap (λ (m : ℕ). old ++ timed m (all_changes news)) number
          ∙ ap (λ l. old ++ timed (suc k) l) (one.changes stories same)
          ∙ ap (λ t. t ++ timed (suc k) (changes_after k stories)) (one.begins stories same)
          ∙ append_assoc start (changes_to k stories) (timed (suc k) (changes_after k stories)));
    })

-- past bits in which nothing changes
gone_rest : (k n i : ℕ) (first : List NodeStory) (olds news : List Probe) (start text : List ℕ)
    (r : EachRelated (ProbeRested n) olds news) → i ≤ n → HaveGone k first olds start text → AllRest n olds →
    HaveGone (k + i) first (states n i olds news r) start text
gone_rest k n zero first olds news start text r most gone all =
    subst₂ (λ (m : ℕ) (l : List Probe). HaveGone m first l start text) (let none : k ≡ k + 0 = omega arith in none)
    (sym (states_first n olds news r)) gone
gone_rest k n (suc i) first olds news start text r most gone all =
    let one : k + suc i ≡ suc (k + i) = omega arith in
    gone_more (k + i) (k + suc i) first (states n i olds news r) (states n (suc i) olds news r) start text text one
    (gone_rest k n i first olds news start text r (omega (arith, most)) gone all)
    (states_go n i olds news r (omega (arith, most)) all (all_reading k olds gone.parts gone.at))
    (sym (append-nil text) ∙ ap (λ l. text ++ timed (k + suc i) l) (sym (all_none n i olds news r)))

pub gone_rested : (k n next : ℕ) (first : List NodeStory) (olds news : List Probe) (start text : List ℕ) → 1 ≤ n →
    next ≡ k + n → HaveGone k first olds start text → AllRest n olds → EachRelated (ProbeRested n) olds news →
    HaveGone next first news start text
gone_rested k n next first olds news start text some is gone all r =
    subst₂ (λ (m : ℕ) (l : List Probe). HaveGone m first l start text) (sym is) (states_last n olds news r some)
    (gone_rest k n n first olds news start text r (omega arith) gone all)

-- ---- all bits

-- there is none
pub no_bits : (bits : ℕ) (first : List NodeStory) (probes : List Probe) (text : List ℕ) → bits ≡ 0 →
    EachRelated (IsAtBit 0) probes first → HaveEnded bits first probes text text
no_bits bits first probes text none at =
    let P : ℕ → Type 0 = λ m. HaveEnded m first probes text text in
    subst P (sym none) (record {
      parts = first;
      at = at;
      same = each_refl (IsSameTo 0) (same_refl 0) first;
      text_is = λ stories same. sym (append-nil text);
    })

-- the end of the last bit, k
pub gone_end : (k bits n : ℕ) (first : List NodeStory) (olds news : List Probe) (start old new : List ℕ) →
    bits ≡ suc k → n ≡ bits → HaveGone k first olds start old → EachRelated GoesOn olds news →
    new ≡ old ++ (time_line n ++ all_changes news) → HaveEnded bits first news start new
gone_end k bits n first olds news start old new number same_number gone on wrote =
    let one = one_more k first olds news start old gone on in
    let P : ℕ → Type 0 = λ m. HaveEnded m first news start new in
    subst P (sym number) (record {
      parts = one.parts;
      at = one.at;
      same = one.same;
      text_is = λ stories same.
          (wrote ∙ ap (λ (m : ℕ). old ++ (time_line m ++ all_changes news)) (same_number ∙ number)
          ∙ ap (λ l. old ++ (time_line (suc k) ++ l)) (one.changes stories same)
          ∙ ap (λ t. t ++ (time_line (suc k) ++ changes_after k stories)) (one.begins stories same)
          ∙ append_assoc start (changes_to k stories) (time_line (suc k) ++ changes_after k stories)
          ∙ ap (λ t. start ++ t)
          (sym (append_assoc (changes_to k stories) (time_line (suc k)) (changes_after k stories))));
    })

-- ---- the whole

-- what is written behind the declarations, and then the rest of each journal is told
pub all_shown : (log : RunValue) (begun olds news : List Probe) (start old new : List ℕ)
    (first : AreFirst log.nodes begun) → old ≡ start ++ all_values begun →
    HaveEnded log.bits first.parts olds old new → EachRelated Finishes olds news → ShowsAll log start new
all_shown log begun olds news start old new first values ended finish =
    let all = all_told log.bits olds news ended.parts ended.at finish in
    let same = each_trans (IsSameTo 0) (same_trans 0) first.parts ended.parts all.stories ended.same
    (all_less 0 log.bits ended.parts all.stories (omega arith) all.same) in
    let P : List NodeValue → Type 0 = λ l. EachRelated IsStory l all.stories in
    record {
      stories = all.stories;
      are = subst P (same_nodes 0 first.parts ended.parts ended.same ∙ first.nodes_are) all.are;
      text_is = ended.text_is all.stories all.same
          ∙ ap (λ t. t ++ changes_of log.bits all.stories)
          (values ∙ ap (λ l. start ++ l)
          (first_are begun all.stories (all_show 0 begun first.parts all.stories first.at same)));
    }

-- the probes were lent as a slice
pub lent_first : (log : RunValue) (nodes : List NodeValue) (probes lent : List Probe) → nodes ≡ log.nodes →
    lent ≡ probes → AreFirst nodes probes → AreFirst log.nodes lent
lent_first log nodes probes lent same is first =
    let P : List Probe → Type 0 = λ l. AreFirst log.nodes l in
    let Q : List NodeValue → Type 0 = λ l. AreFirst l probes in subst P (sym is) (subst Q same first)

pub whole_wave : (log : RunValue) (nodes : List NodeValue) (none start text : List ℕ) → none ≡ [] →
    nodes ≡ log.nodes →
    ((stories : List NodeStory) → length stories ≡ length nodes → start ≡ none ++ declarations stories) →
    ShowsAll log start text → IsWave log text
whole_wave log nodes none start text empty same declared shown = record {
  stories = shown.stories;
  are = shown.are;
  whole = shown.text_is
      ∙ ap (λ t. (t ++ first_values shown.stories) ++ changes_of log.bits shown.stories)
      (declared shown.stories
      (AllZip-long IsStory log.nodes shown.stories shown.are ∙ ap (λ (l : List NodeValue). length l) (sym same))
      ∙ ap (λ t. t ++ declarations shown.stories) empty);
}
