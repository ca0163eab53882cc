-- The lines of a node's frames, past bits of which nothing is told.
use Rattle.std.proofs.Common.{◌≡◌, ◌<◌, ℕ, Option, None, List, [], ◌∷◌, ◌++◌, length, refl, sym, ap, ◌∙◌, subst}
use Rattle.std.proofs.Common.{append_assoc, arith}
use Rattle.sja_journal.specs.declared.entry.Entry.{Entry}
use Rattle.sja_replay.specs.declared.bit_event.BitEvent.{BitEvent}
use Rattle.sja_replay.specs.declared.replay.Replay.{Replay}
use Rattle.sja_replay.specs.declared.short_bit.ShortBit.{ShortBit}
use Rattle.sja_replay.specs.Happened.{Happened}
use Rattle.sja_replay.specs.Replaying.{left_of, IsAt, GoesOn}
use Rattle.sja_replay.specs.Short.{PassesBit}
use Rattle.sja_replay.specs.Silent.{PassesSilently}
use Rattle.sja_replay.proofs.BitTaken.Silent.{goes_both}
use Rattle.sja_replay.proofs.BitTaken.Walks.{past_none, goes_on as none_on}
use Rattle.text_frames.specs.declared.started_frame.StartedFrame.{StartedFrame}
use Rattle.text_frames.specs.declared.open_frame.OpenFrame.{OpenFrame}
use Rattle.text_frames.specs.FrameStories.{NodeStory, stories_of, values_of}
use Rattle.text_frames.specs.Inside.Walking.{stories_from, Goes}
use Rattle.text_frames.specs.Passing.{GoesShort, Walked, Walks}
use Rattle.text_frames.proofs.FrameLines.Walks.{IsWalking, walk_next}
use Rattle.text_frames.proofs.FrameLines.Shorts.{short_none}

-- ---- one behind the other

pub walk_still : (node : ℕ) (lines : List StartedFrame) (current : Option OpenFrame) (r : Replay) →
    Walks node lines lines current current r r
walk_still node lines current r = λ before at.
    record { told = []; goes = none_on r r before (past_none r before at); are = λ more. refl }

pub walk_both : (node : ℕ) (first mid last : List StartedFrame) (x y z : Option OpenFrame) (a b c : Replay) →
    Walks node first mid x y a b → Walks node mid last y z b c → Walks node first last x z a c
walk_both node first mid last x y z a b c before_them next = λ before at.
    let f = before_them before at in
    let n = next f.goes.now f.goes.at in
    record {
      told = f.told ++ n.told;
      goes = goes_both a b c before f.told n.told f.goes n.goes;
      are = λ more.
          ap (λ (l : List BitEvent). values_of first ++ stories_from node x l) (append_assoc f.told n.told more)
          ∙ f.are (n.told ++ more) ∙ n.are more;
    }

-- a bit in short
pub walk_short : (node : ℕ) (olds news : List StartedFrame) (x y : Option OpenFrame) (old new : Replay) (q : ShortBit)
    (number : ℕ) → number ≡ old.bits → ((before : List Entry) → IsAt old before → PassesBit old new before q) →
    GoesShort node number q olds news x y → Walks node olds news x y old new
walk_short node olds news x y old new q number is passes goes = λ before at.
    let p = passes before at in
    record { told = p.happened ∷ []; goes = p.goes; are = goes p.happened p.short (p.number ∙ sym is) }

-- where no frame is under way
pub walk_silent : (node : ℕ) (lines : List StartedFrame) (old new : Replay) → PassesSilently old new →
    Walks node lines lines None None old new
walk_silent node lines old new silent = λ before at.
    let s = silent before at in
    record {
      told = s.told;
      goes = s.goes;
      are = λ more. ap (λ (l : List NodeStory). values_of lines ++ l) (short_none node s.told more s.short);
    }

-- ---- a node

pub walk_on : (node : ℕ) (journal : List Entry) (first olds news : List StartedFrame) (x y : Option OpenFrame)
    (old new : Replay) → IsWalking node journal first olds x old → Walks node olds news x y old new →
    IsWalking node journal first news y new
walk_on node journal first olds news x y old new w walks =
    let g = walks w.before w.at in
    record {
      told = w.told ++ g.told;
      before = g.goes.now;
      at = g.goes.at;
      leads = λ more x.
          (let P : List BitEvent → Type 0 = λ l. Happened [] journal l in
          subst P (sym (append_assoc w.told g.told more)) (w.leads (g.told ++ more) (g.goes.leads more x)));
      are = λ more.
          (sym (g.are more) ∙ w.are (g.told ++ more)
          ∙ ap (λ (l : List BitEvent). values_of first ++ stories_of node l) (sym (append_assoc w.told g.told more)));
    }

-- past a bit, and such bits behind it
pub both_shorter : (node : ℕ) (journal : List Entry) (first olds mids news : List StartedFrame)
    (x y z : Option OpenFrame) (old mid new : Replay) (h : BitEvent) → IsWalking node journal first olds x old →
    ((before : List Entry) → IsAt old before → GoesOn old mid before (h ∷ [])) → Goes node h olds mids x y →
    Walks node mids news y z mid new → length (left_of new) < length (left_of old)
both_shorter node journal first olds mids news x y z old mid new h w goes step walks =
    let few = (goes w.before w.at).fewer in
    let next = walk_next node journal first olds mids x y old mid h w goes step in
    let fewer = (walks next.before next.at).goes.fewer in
    omega (arith, few, fewer)
