-- The lines of a node's frames, one bit after another.
use Rattle.std.proofs.Common.{◌≡◌, ℕ, Bool, true, false, Option, Some, None, List, [], ◌∷◌, ◌++◌, map}
use Rattle.std.proofs.Common.{refl, sym, ap, ap₂, ◌∙◌, subst, append-nil, append_assoc}
use Rattle.std.specs.Prelude.{if◌then◌else◌}
use Rattle.can_frame.specs.Frame.{FrameValue}
use Rattle.sja_journal.specs.declared.entry.Entry.{Entry}
use Rattle.sja_replay.specs.declared.bit_event.BitEvent.{BitEvent}
use Rattle.sja_replay.specs.declared.replay.Replay.{Replay}
use Rattle.sja_replay.specs.Happened.{Happened}
use Rattle.sja_replay.specs.Replaying.{left_of, IsAt, GoesOn}
use Rattle.text_frames.specs.declared.started_frame.StartedFrame.{StartedFrame}
use Rattle.text_frames.specs.declared.open_frame.OpenFrame.{OpenFrame}
use Rattle.text_frames.specs.FrameBits.{started_by, starts, is_some, belongs, part_of, is_intermission, bits_after}
use Rattle.text_frames.specs.FrameBits.{bit_after, run_on}
use Rattle.text_frames.specs.FrameStories.{begun, stories_in, NodeStory, of_node, stories_of, values_of}
use Rattle.text_frames.specs.Inside.Walking.{story_with, story_if, story_before, story_after}
use Rattle.text_frames.specs.Inside.Walking.{IsOpened, TakesIn, Keeps, stories_from, Goes, PutsFrames}

-- ---- a bit of the frame that is under way

taken : (node : ℕ) (o n : OpenFrame) (h : BitEvent) (part : List BitEvent) → TakesIn o n h →
    story_with node o (h ∷ part) ≡ story_with node n part
taken node o n h part t =
    let bits = append_assoc o.bits.items (bit_after o.run h ∷ []) (bits_after (run_on o.run h.seen) part) in
    let sof = t.sof in
    let frame = t.frame in
    let more = t.bits in
    let run = t.run in
    let last = t.last in
    cc

taken_if : (node : ℕ) (o n : OpenFrame) (h : BitEvent) (part : List BitEvent) (s : Bool) → TakesIn o n h →
    story_with node o (h ∷ (if s then [] else part)) ∷ []
    ≡ (if s then story_with node n [] ∷ [] else story_with node n part ∷ [])
taken_if node o n h part true t = ap (λ l. l ∷ []) (taken node o n h [] t)
taken_if node o n h part false t = ap (λ l. l ∷ []) (taken node o n h part t)

-- it belongs to it
pub keeps_on : (node : ℕ) (lines : List StartedFrame) (o n : OpenFrame) (h : BitEvent) → belongs o.paused h ≡ true →
    TakesIn o n h → Keeps node h lines lines (Some o) (Some n)
keeps_on node lines o n h within t =
    λ more.
    (let rest = part_of (is_intermission h.before.phase) more in
    let all = if starts h then [] else rest in
    let mine : part_of o.paused (h ∷ more) ≡ h ∷ all = ap (λ (b : Bool). if b then h ∷ all else []) within in
    let here : story_before node (Some o) (h ∷ more) ≡ story_with node o (h ∷ all) ∷ [] =
    ap (λ (l : List BitEvent). story_with node o l ∷ []) mine in
    let then_line = λ (p : Bool).
    (if starts h then story_if node (Some n) [] else story_with node n (part_of p more) ∷ []) in
    ap (λ (l : List NodeStory). values_of lines ++ l)
    (here ∙ taken_if node o n h rest (starts h) t ∙ ap then_line (sym t.paused)))

-- ---- a bit

-- with which no frame starts
pub goes_on : (node : ℕ) (h : BitEvent) (olds news : List StartedFrame) (current next : Option OpenFrame) →
    Keeps node h olds news current next → None ≡ started_by h → Goes node h olds news current next
goes_on node h olds news current next keeps none =
    λ more.
    (let same : story_after node h next more ≡ story_before node next more =
    ap (λ (o : Option FrameValue). if is_some o then story_if node next [] else story_before node next more)
    (sym none) in
    let lines : stories_of node (h ∷ more) ≡ stories_of node more =
    ap (λ (o : Option FrameValue). map (of_node node) (begun o h more ++ stories_in more)) (sym none) in
    sym (append_assoc (values_of olds) (story_before node current (h ∷ more)) (stories_of node (h ∷ more)))
    ∙ ap₂ (λ a b. a ++ b) (keeps more ∙ ap (λ (l : List NodeStory). values_of news ++ l) same) lines
    ∙ append_assoc (values_of news) (story_before node next more) (stories_of node more))

-- with which one starts
opened : (node : ℕ) (h : BitEvent) (f : FrameValue) (n : OpenFrame) (more : List BitEvent) → IsOpened f h n →
    map (of_node node) (begun (Some f) h more) ≡ story_before node (Some n) more
opened node h f n more o =
    let sof = o.sof in
    let frame = o.frame in
    let bits = o.bits in
    let run = o.run in
    let last = o.last in
    let paused = o.paused in cc

pub goes_anew : (node : ℕ) (h : BitEvent) (olds mid news : List StartedFrame) (current kept : Option OpenFrame)
    (f : FrameValue) (n : OpenFrame) → Keeps node h olds mid current kept → Some f ≡ started_by h →
    values_of news ≡ values_of mid ++ story_if node kept [] → IsOpened f h n →
    Goes node h olds news current (Some n)
goes_anew node h olds mid news current kept f n keeps some wrote is =
    λ more.
    (let same : story_after node h kept more ≡ story_if node kept [] =
    ap (λ (o : Option FrameValue). if is_some o then story_if node kept [] else story_before node kept more)
    (sym some) in
    let lines : stories_of node (h ∷ more) ≡ stories_from node (Some n) more =
    ap (λ (o : Option FrameValue). map (of_node node) (begun o h more ++ stories_in more)) (sym some)
    ∙ ap (λ (l : List NodeStory). l ++ stories_of node more) (opened node h f n more is) in
    sym (append_assoc (values_of olds) (story_before node current (h ∷ more)) (stories_of node (h ∷ more)))
    ∙ ap₂ (λ a b. a ++ b) (keeps more ∙ ap (λ (l : List NodeStory). values_of mid ++ l) same ∙ sym wrote) lines)

-- ---- a node

-- what the lines so far and the rest of a journal come to
pub record IsWalking (node : ℕ) (journal : List Entry) (first lines : List StartedFrame) (current : Option OpenFrame)
    (r : Replay) : Type 0 where
  pub told : List BitEvent
  pub before : List Entry
  pub at : IsAt r before
  pub leads : (more : List BitEvent) → Happened before (left_of r) more → Happened [] journal (told ++ more)
  pub are : (more : List BitEvent) →
      values_of lines ++ stories_from node current more ≡ values_of first ++ stories_of node (told ++ more)

pub walk_first : (node : ℕ) (journal : List Entry) (lines : List StartedFrame) (r : Replay) → IsAt r [] →
    left_of r ≡ journal → IsWalking node journal lines lines None r
walk_first node journal lines r at left = record {
  told = [];
  before = [];
  at = at;
  leads = λ more x. (let P : List Entry → Type 0 = λ l. Happened [] l more in subst P left x);
  are = λ more. refl;
}

pub walk_next : (node : ℕ) (journal : List Entry) (first olds news : List StartedFrame)
    (current next : Option OpenFrame) (old new : Replay) (h : BitEvent) →
    IsWalking node journal first olds current old →
    ((before : List Entry) → IsAt old before → GoesOn old new before (h ∷ [])) → Goes node h olds news current next →
    IsWalking node journal first news next new
walk_next node journal first olds news current next old new h w goes step =
    let g = goes w.before w.at in
    record {
      told = w.told ++ h ∷ [];
      before = g.now;
      at = g.at;
      leads = λ more x.
          (let P : List BitEvent → Type 0 = λ l. Happened [] journal l in
          subst P (sym (append_assoc w.told (h ∷ []) more)) (w.leads (h ∷ more) (g.leads more x)));
      are = λ more.
          (sym (step more) ∙ w.are (h ∷ more)
          ∙ ap (λ (l : List BitEvent). values_of first ++ stories_of node l)
          (sym (append_assoc w.told (h ∷ []) more)));
    }

-- the last line
left_over : (node : ℕ) (current : Option OpenFrame) → story_before node current [] ≡ story_if node current []
left_over node None = refl
left_over node (Some o) = refl

pub walk_last : (node : ℕ) (journal : List Entry) (first lines news : List StartedFrame) (current : Option OpenFrame)
    (r : Replay) → IsWalking node journal first lines current r →
    ((before : List Entry) → IsAt r before → Happened before (left_of r) []) →
    values_of news ≡ values_of lines ++ story_if node current [] → PutsFrames node journal first news
walk_last node journal first lines news current r w none wrote = record {
  told = w.told;
  have =
      let P : List BitEvent → Type 0 = λ l. Happened [] journal l in
      subst P (append-nil w.told) (w.leads [] (none w.before w.at));
  are = wrote ∙ ap (λ (l : List NodeStory). values_of lines ++ l) (sym (left_over node current))
      ∙ ap (λ (l : List NodeStory). values_of lines ++ l) (sym (append-nil (story_before node current []))) ∙ w.are []
      ∙ ap (λ (l : List BitEvent). values_of first ++ stories_of node l) (append-nil w.told);
}
