-- Each message that a node of a run stored has its line in the trace.
use Rattle.std.proofs.Common.{◌≡◌, ◌<◌, ◌^◌, ℕ, List, [], ◌∷◌, ◌++◌, arith}
use Rattle.std.specs.Prelude.{slice_index_or, length}
use Rattle.std.proofs.lemmas.Option.{slice_get_within}
use Rattle.sja_journal.specs.declared.entry.Entry.{Entry}
use Rattle.sja_journal.specs.declared.entry.Entry.TheVariants.{Stored as StoredEntry}
use Rattle.sja_journal.specs.Places.{place_of}
use Rattle.sja_plan.specs.Plan.{PlanValue}
use Rattle.sja_log.specs.Log.{NodeValue, RunValue}
use Rattle.sja_promises.specs.Runs.{IsSerialRun}
use Rattle.sja_replay.specs.declared.bit_event.BitEvent.{BitEvent}
use Rattle.sja_replay.specs.Happened.{Happened}
use Rattle.text_trace.specs.TraceText.{IsTrace}
use Rattle.sja_replay.specs.Stored.{AllStored}
use Rattle.text_trace.specs.StoredLines.{IsToldStored}
use Rattle.sja_laws.proofs.RunsTold.AllRuns.{bits_told, stores_told}
use Rattle.text_trace.proofs.Stories.LogStories.{story_split}
use Rattle.text_trace.proofs.Stories.StoredLines.{stored_line}

-- of a log in whose journal of a node each bit is told, with each message that was stored
module _ (plan : PlanValue) (log : RunValue) (trace : List ℕ) (told : IsTrace plan log trace) (k : ℕ) (d : NodeValue)
    (less : k < length log.nodes) where
  abbrev journal : List Entry
  journal = (slice_index_or log.nodes k d).journal

  pub stored_lines : ((hs : List BitEvent) → Happened [] journal hs → length hs ≡ log.bits) →
      ((hs : List BitEvent) → Happened [] journal hs → AllStored journal hs) → (before after : List Entry)
      (m : List ℕ) → journal ≡ before ++ StoredEntry m ∷ after → IsToldStored trace k (place_of before).bits m
  stored_lines bits stores before after m is =
      let at = story_split plan 0 k log.nodes told.stories d told.are less in
      let hs = at.story.bits in
      let x = at.is.bits_are in
      let s = stores hs x before after m is in
      let n = bits hs x in
      let within = slice_get_within hs s.bit s.bit_event s.there in record {
        bit = s.bit;
        count = s.count;
        frame = s.frame;
        bytes = s.bytes;
        line = stored_line plan (slice_index_or log.nodes k d) k told.stories log.bits s.bit trace at s.bit_event
            s.frame told.whole (omega (arith, within, n)) s.there s.received s.reception;
      }

pub stores_have_lines : (plan : PlanValue) (log : RunValue) (trace : List ℕ) → IsSerialRun plan log →
    IsTrace plan log trace → log.bits < 2 ^ 32 → (k : ℕ) (d : NodeValue) → k < length log.nodes →
    (before after : List Entry) (m : List ℕ) →
    (slice_index_or log.nodes k d).journal ≡ before ++ StoredEntry m ∷ after →
    IsToldStored trace k (place_of before).bits m
stores_have_lines plan log trace run told few k d less =
    stored_lines plan log trace told k d less (bits_told plan log run k d less few)
    (stores_told plan log run k d less few)
