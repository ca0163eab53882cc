-- A picture, drawn bit by bit.
use Rattle.std.proofs.Common.{◌≡◌, ◌⊎◌, inl, inr, ℕ, ◌+◌, ◌-◌, ◌<◌, ◌≤◌, suc, true, false}
use Rattle.std.proofs.Common.{List, [], ◌∷◌, ◌++◌, length, codes, string_bytes, refl, sym, ap, ap₂, ◌∙◌, subst, subst₂}
use Rattle.std.proofs.Common.{arith}
use Rattle.std.specs.Prelude.{nat_lt}
use Rattle.std.specs.List.{range_with_len, repeat}
use Rattle.std.proofs.lemmas.Bool.{cases_Bool}
use Rattle.can_levels.specs.declared.level.Level.TheVariants.{Recessive}
use Rattle.lemmas.specs.Gathering.{gathered}
use Rattle.lemmas.specs.Related.{EachRelated}
use Rattle.lemmas.proofs.Ranges.{gathered_from, gathered_to, gathered_before}
use Rattle.sja_log.specs.Log.{NodeValue}
use Rattle.sja_replay.specs.declared.bit_event.BitEvent.{BitEvent}
use Rattle.text_trace.specs.declared.node_trace.NodeTrace.{NodeTrace}
use Rattle.text_trace.specs.TraceProgress.{HaveTold}
use Rattle.text_trace.specs.Passing.{hands_driven}
use Rattle.text_trace.specs.TraceText.{NodeStory}
use Rattle.can_levels.specs.BusLevel.{wired}
use Rattle.text_picture.specs.declared.node_rows.NodeRows.{NodeRows}
use Rattle.text_picture.specs.declared.page.Page.{Page}
use Rattle.text_picture.specs.declared.span.Span.{Span}
use Rattle.text_picture.specs.Rows.{level_sign, ruler_in, bus_in, bus_sign}
use Rattle.text_picture.specs.PictureText.{row, to_ten, length_of, block_text, block_in, picture_text}
use Rattle.text_picture.specs.Drawing.{Passes, IsFresh, AreFresh, AreRows, EachBeside}
use Rattle.text_picture.specs.Knowing.{Begin, Knows}
use Rattle.text_picture.specs.Inside.PictureRest.{PassesRest}
use Rattle.text_picture.specs.Pages.{DrawsBit, DrawsRest, EndsBlock, ends, MayEnd, HasRoom, space_if}
use Rattle.text_picture.specs.Pages.{shown_block}
use Rattle.text_picture.specs.Pages.{IsAt, IsDrawn, TakesBit, TakesRest, no_plan, AreFirst}
use Rattle.text_picture.proofs.WholePage.Places.{at_passed, at_drawn, at_ended, first_at, going, ending, length_is}
use Rattle.text_picture.proofs.WholePage.Places.{space_is}
use Rattle.text_picture.proofs.NodeRows.Drawing.{all_passed, all_drawn, all_cleared, all_shown, bus_at_hand, fresh_rows}
use Rattle.text_picture.proofs.NodeRows.Resting.{same_more, bus_rests, all_passed_rest, all_drawn_rest}
use Rattle.text_picture.proofs.NodeRows.Stories.{bits_of, knows_first}

-- ---- a block

block_is : (told : List (List BitEvent)) (start stop : ℕ) (bus : List ℕ) (rows : List NodeRows) →
    bus ≡ gathered (bus_sign told) (range_with_len start (stop - start)) →
    EachRelated (AreRows (bus_in told) start stop) told rows →
    shown_block start (stop - start) bus rows ≡ block_text told start (stop - start)
block_is told start stop bus rows is r =
    ap₂ (λ l m. row (codes "bit     ") ruler_in start (to_ten start (stop - start))
    ++ (codes "bus     " ++ (l ++ 10 ∷ [])) ++ m)
    is (all_shown (bus_in told) start stop 0 told rows r)

-- ---- before the first bit

-- what stands beside the node traces is related to the bits of the nodes, where it's related to the nodes
pub first_each : {A : Type 0} (R : NodeValue → A → Type 0) (Q : List BitEvent → A → Type 0) →
    ((n : NodeValue) (hs : List BitEvent) (x : A) → R n x → Q hs x) → (k : ℕ) (nodes : List NodeValue)
    (ts : List NodeTrace) (ss : List NodeStory) (told : List (List BitEvent)) (rows : List A) →
    HaveTold k no_plan 0 nodes ts ss → Begin 0 (bits_of ss) told → EachRelated R nodes rows → EachRelated Q told rows
first_each R Q goes k [] [] [] [] [] have begin each = tt
first_each R Q goes k [] [] [] [] (r ∷ rows) have begin each = absurd each
first_each R Q goes k [] [] [] (hs ∷ told) rows have begin each = absurd begin
first_each R Q goes k [] [] (s ∷ ss) told rows have begin each = absurd have
first_each R Q goes k [] (t ∷ ts) ss told rows have begin each = absurd have
first_each R Q goes k (n ∷ nodes) [] ss told rows have begin each = absurd have
first_each R Q goes k (n ∷ nodes) (t ∷ ts) [] told rows have begin each = absurd have
first_each R Q goes k (n ∷ nodes) (t ∷ ts) (s ∷ ss) [] rows have begin each = absurd begin
first_each R Q goes k (n ∷ nodes) (t ∷ ts) (s ∷ ss) (hs ∷ told) [] have begin each = absurd each
first_each R Q goes k (n ∷ nodes) (t ∷ ts) (s ∷ ss) (hs ∷ told) (r ∷ rows) have begin each = (
  goes n hs r each.0,
  first_each R Q goes (k + 1) nodes ts ss told rows have.1 begin.1 each.1,
)

pub page_first : (nodes : List NodeValue) (span : Span) (ts : List NodeTrace) (rows : List NodeRows) (page : Page) →
    (first : AreFirst nodes ts) → AreFresh nodes rows → string_bytes page.text ≡ [] → page.start ≡ span.first →
    string_bytes page.bus ≡ [] → Knows nodes 0 ts (IsDrawn span 0 page rows)
page_first nodes span ts rows page first fresh text start bus =
    let P : ℕ → Type 0 = λ s. IsAt span.first span.end 0 s 0 in
    knows_first nodes ts (IsDrawn span 0 page rows) first
    (λ told begin. record {
      block = 0;
      at = subst P (sym start) (first_at span.first span.end);
      text_is = text;
      bus_is = bus ∙ sym (gathered_before (bus_sign told) page.start 0 (omega arith));
      rows_are = first_each (λ (n : NodeValue) (r : NodeRows). IsFresh r) (AreRows (bus_in told) page.start 0)
          (λ n hs r f. fresh_rows (bus_in told) page.start hs r f) 0 nodes ts first.stories told rows first.have begin
          fresh;
    })

-- as many as node traces, where what stands beside them is related to the nodes
pub same_count : {A : Type 0} (R : NodeValue → A → Type 0) (k : ℕ) (nodes : List NodeValue) (ts : List NodeTrace)
    (ss : List NodeStory) (rows : List A) → HaveTold k no_plan 0 nodes ts ss → EachRelated R nodes rows →
    length ts ≡ length rows
same_count R k [] [] [] [] have each = refl
same_count R k [] [] [] (r ∷ rows) have each = absurd each
same_count R k [] [] (s ∷ ss) rows have each = absurd have
same_count R k [] (t ∷ ts) ss rows have each = absurd have
same_count R k (n ∷ nodes) [] ss rows have each = absurd have
same_count R k (n ∷ nodes) (t ∷ ts) [] rows have each = absurd have
same_count R k (n ∷ nodes) (t ∷ ts) (s ∷ ss) [] have each = absurd each
same_count R k (n ∷ nodes) (t ∷ ts) (s ∷ ss) (r ∷ rows) have each =
    ap suc (same_count R (k + 1) nodes ts ss rows have.1 each.1)

pub beside : {A : Type 0} (R : NodeValue → A → Type 0) (nodes : List NodeValue) (ts : List NodeTrace) (rows : List A) →
    AreFirst nodes ts → EachRelated R nodes rows → length ts ≡ length rows
beside R nodes ts rows first each = same_count R 0 nodes ts first.stories rows first.have each

-- ---- further on

-- bits that aren't shown
unseen : (span : Span) (bit stop : ℕ) (olds news : List NodeRows) (page : Page) (told : List (List BitEvent)) →
    bit < stop → stop ≤ span.first → stop ≤ span.end →
    (stop ≤ page.start → EachRelated (AreRows (bus_in told) page.start bit) told olds →
    EachRelated (AreRows (bus_in told) page.start stop) told news) →
    IsDrawn span bit page olds told → IsDrawn span stop page news told
unseen span bit stop olds news page told further before within passed d =
    let is = d.at.under_way (omega (arith, further, within)) in
    let behind : stop ≤ page.start = omega (arith, is, before) in
    record {
      block = d.block;
      at = at_passed span.first span.end bit stop page.start d.block further before within d.at;
      text_is = d.text_is;
      bus_is = d.bus_is ∙ gathered_before (bus_sign told) page.start bit (omega (arith, behind, further))
          ∙ sym (gathered_before (bus_sign told) page.start stop behind);
      rows_are = passed behind d.rows_are;
    }

pub page_passed : (span : Span) (bit : ℕ) (ts : List NodeTrace) (olds news : List NodeRows) (page : Page) →
    bit < span.first → bit < span.end → EachBeside Passes ts olds news → TakesBit span bit ts olds news page page
page_passed span bit ts olds news page before within p told shown d =
    unseen span bit (bit + 1) olds news page told (omega arith) (omega (arith, before)) (omega (arith, within))
    (λ behind rows. all_passed (bus_in told) page.start bit told ts olds news (omega (arith, behind)) shown p rows) d

pub page_rested : (span : Span) (bit n : ℕ) (ts : List NodeTrace) (olds news : List NodeRows) (page : Page) → 5 ≤ n →
    HasRoom span bit n page.start → bit < span.first → EachRelated PassesRest olds news →
    TakesRest span bit n ts olds news page page
page_rested span bit n ts olds news page many room before p told rest d =
    unseen span bit (bit + n) olds news page told (omega (arith, many)) (room.before before) room.within
    (λ behind rows. all_passed_rest (bus_in told) page.start bit n told ts olds news many behind rest p rows) d

-- shown: what was drawn of the block
record HasDrawn (start bit : ℕ) (bus : List ℕ) (rows : List NodeRows) (told : List (List BitEvent)) : Type 0 where
  bus_is : bus ≡ gathered (bus_sign told) (range_with_len start (bit - start))
  rows_are : EachRelated (AreRows (bus_in told) start bit) told rows

-- the block goes on
goes_on : (span : Span) (bit stop : ℕ) (olds mids : List NodeRows) (old mid : Page) (told : List (List BitEvent)) →
    bit < stop → string_bytes mid.text ≡ string_bytes old.text → mid.start ≡ old.start →
    HasDrawn old.start stop (string_bytes mid.bus) mids told → ends span mid.start stop ≡ false →
    IsDrawn span bit old olds told → IsDrawn span stop mid mids told
goes_on span bit stop olds mids old mid told further text same h over d =
    let goes = going span.end stop mid.start over in
    let few : stop - old.start < 120 = omega (arith, goes, same) in
    let P : ℕ → Type 0 = λ s. IsAt span.first span.end stop s d.block in
    let Q : ℕ → Type 0 = λ s. EachRelated (AreRows (bus_in told) s stop) told mids in
    record {
      block = d.block;
      at = subst P (sym same) (at_drawn span.first span.end bit stop old.start d.block further goes.0 few d.at);
      text_is = text ∙ d.text_is;
      bus_is = h.bus_is ∙ ap (λ (s : ℕ). gathered (bus_sign told) (range_with_len s (stop - s))) (sym same);
      rows_are = subst Q (sym same) h.rows_are;
    }

-- it ends
it_ends : (span : Span) (bit stop : ℕ) (olds mids news : List NodeRows) (old mid new : Page)
    (told : List (List BitEvent)) → span.first ≤ bit → bit < stop → stop ≤ span.end → stop ≤ old.start + 120 →
    string_bytes mid.text ≡ string_bytes old.text → mid.start ≡ old.start →
    HasDrawn old.start stop (string_bytes mid.bus) mids told → ends span mid.start stop ≡ true →
    EndsBlock span stop mids news mid new → IsDrawn span bit old olds told → IsDrawn span stop new news told
it_ends span bit stop olds mids news old mid new told from further within room text same h over e d =
    let is = d.at.under_way (omega (arith, further, within)) in
    let whole = ending span.end stop mid.start over in
    let Over : ℕ → Type 0 = λ s. (span.end ≤ stop) ⊎ (120 ≤ stop - s) in
    let there : Over old.start = subst Over same whole in
    let many : stop - old.start ≡ length_of span.first span.end d.block =
    length_is span.first span.end stop old.start d.block is room within there in
    let P : ℕ → Type 0 = λ s. IsAt span.first span.end stop s (d.block + 1) in
    let Q : ℕ → Type 0 = λ s. EachRelated (AreRows (bus_in told) s stop) told news in
    record {
      block = d.block + 1;
      at = subst P (sym e.start)
          (at_ended span.first span.end bit stop old.start d.block from further within room there d.at);
      text_is = e.text
          ∙ ap₂ (λ l (s : ℕ). l
          ++ (space_if (nat_lt span.first s) ++ shown_block s (stop - s) (string_bytes mid.bus) mids))
          (text ∙ d.text_is) same
          ∙ ap₂ (λ l m. gathered (block_in told span.first span.end) (range_with_len 0 d.block) ++ (l ++ m))
          (space_is span.first old.start d.block is)
          (block_is told old.start stop (string_bytes mid.bus) mids h.bus_is h.rows_are
          ∙ ap₂ (λ (s n : ℕ). block_text told s n) is many)
          ∙ sym (gathered_to (block_in told span.first span.end) d.block);
      bus_is = e.bus ∙ sym (gathered_before (bus_sign told) new.start stop (omega (arith, e.start)));
      rows_are = subst Q (sym e.start)
          (all_cleared (bus_in told) old.start stop told mids news h.rows_are e.rows);
    }

-- one or the other
may_end : (span : Span) (bit stop : ℕ) (olds mids news : List NodeRows) (old mid new : Page)
    (told : List (List BitEvent)) → span.first ≤ bit → bit < stop → stop ≤ span.end → stop ≤ old.start + 120 →
    string_bytes mid.text ≡ string_bytes old.text → mid.start ≡ old.start →
    HasDrawn old.start stop (string_bytes mid.bus) mids told → MayEnd span stop mids news mid new →
    IsDrawn span bit old olds told → IsDrawn span stop new news told
may_end span bit stop olds mids news old mid new told from further within room text same h may d =
    elim (cases_Bool (ends span mid.start stop)) [
      | inl over ↦ it_ends span bit stop olds mids news old mid new told from further within room text same h over
          (may.over over) d
      | inr on ↦
          let stay = may.on on in
          let there = goes_on span bit stop olds mids old mid told further text same h on d in
          subst₂ (λ (p : Page) (r : List NodeRows). IsDrawn span stop p r told) (sym stay.1) (sym stay.0) there
    ]

pub page_taken : (span : Span) (bit : ℕ) (ts : List NodeTrace) (olds mids news : List NodeRows) (old mid new : Page) →
    span.first ≤ bit → bit < span.end → DrawsBit ts olds mids old mid → MayEnd span (bit + 1) mids news mid new →
    TakesBit span bit ts olds news old new
page_taken span bit ts olds mids news old mid new from within draws may told shown d =
    let first_reached = d.at.reached within in
    let short = d.at.short within in
    let reached : old.start ≤ bit = omega (arith, first_reached, from) in
    let same = bus_at_hand bit told ts shown in
    may_end span bit (bit + 1) olds mids news old mid new told from (omega arith) (omega (arith, within))
    (omega (arith, short)) draws.text draws.start
    (record {
      bus_is = draws.bus ∙ ap₂ (λ l b. l ++ level_sign b) d.bus_is same
          ∙ sym (gathered_from (bus_sign told) old.start bit reached);
      rows_are = all_drawn (bus_in told) old.start bit (wired (hands_driven ts)) told ts olds mids reached same shown
          draws.rows d.rows_are;
    })
    may d

pub page_rest : (span : Span) (bit n : ℕ) (ts : List NodeTrace) (olds mids news : List NodeRows) (old mid new : Page) →
    5 ≤ n → HasRoom span bit n old.start → span.first ≤ bit → DrawsRest n ts olds mids old mid →
    MayEnd span (bit + n) mids news mid new → TakesRest span bit n ts olds news old new
page_rest span bit n ts olds mids news old mid new many room from draws may told rest d =
    let all = room.within in
    let within : bit < span.end = omega (arith, all, many) in
    let first_reached = d.at.reached within in
    let short = d.at.short within in
    let few = room.block from in
    let reached : old.start ≤ bit = omega (arith, first_reached, from) in
    let none = bus_rests bit n ts told rest in
    may_end span bit (bit + n) olds mids news old mid new told from (omega (arith, many)) all
    (omega (arith, short, few, reached)) draws.text draws.start
    (record {
      bus_is = draws.bus ∙ ap (λ l. l ++ repeat n (level_sign Recessive)) d.bus_is
          ∙ same_more (bus_sign told) old.start bit n (level_sign Recessive) reached
          (λ i low less. ap level_sign (none i low less));
      rows_are = all_drawn_rest (bus_in told) old.start bit n told ts olds mids many reached none rest draws.rows
          d.rows_are;
    })
    may d

-- there is as much room for fewer bits
pub room_fewer : (span : Span) (bit n m start : ℕ) → HasRoom span bit n start → m ≤ n → HasRoom span bit m start
room_fewer span bit n m start room few =
    let within = room.within in
    record {
      within = omega (arith, within, few);
      before = λ h. (let b = room.before h in omega (arith, b, few));
      block = λ h. (let b = room.block h in omega (arith, b, few));
    }

-- ---- past the last bit

pub page_whole : (span : Span) (bit : ℕ) (page : Page) (rows : List NodeRows) (told : List (List BitEvent)) →
    span.end ≤ bit → IsDrawn span bit page rows told →
    string_bytes page.text ≡ picture_text told span.first span.end
page_whole span bit page rows told past d =
    d.text_is
    ∙ ap (λ (n : ℕ). gathered (block_in told span.first span.end) (range_with_len 0 n)) (d.at.over past)
