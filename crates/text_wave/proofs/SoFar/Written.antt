-- What is written of all nodes.
use Rattle.std.proofs.Common.{◌≡◌, ℕ, ◌+◌, ◌<◌, suc, List, [], ◌∷◌, ◌++◌, length, map}
use Rattle.std.proofs.Common.{drop, get_or, codes, decimal, refl, sym, ap, ap₂, ◌∙◌, append-nil, append_assoc}
use Rattle.std.proofs.lemmas.List.{drop_more}
use Rattle.can_levels.specs.Fields.{is_recessive}
use Rattle.lemmas.proofs.Gathered.{gathered_append}
use Rattle.lemmas.specs.Gathering.{gathered}
use Rattle.lemmas.specs.Related.{EachRelated}
use Rattle.can_levels.specs.BusLevel.{wired}
use Rattle.sja_log.specs.Log.{NodeValue}
use Rattle.text_report.specs.ReportLines.{numbered}
use Rattle.text_wave.specs.declared.cursor.Cursor.{Cursor}
use Rattle.text_wave.specs.declared.gauges.Gauges.{Gauges}
use Rattle.text_wave.specs.declared.probe.Probe.{Probe}
use Rattle.text_wave.specs.AllSignals.{Signal, told_signals, node_signals}
use Rattle.text_wave.specs.AllSignals.Signal.{wire, number}
use Rattle.text_wave.specs.Numbers.{node_number}
use Rattle.text_wave.specs.Signals.{last_bit, shows_driven, shows_seen, shows_active}
use Rattle.text_wave.specs.Signals.{shows_off, shows_stored, shows_overrun}
use Rattle.text_wave.specs.Stories.{NodeStory, nodes_of}
use Rattle.text_wave.specs.Views.{tec_of, rec_of, phase_of}
use Rattle.text_wave.specs.Wires.{Wire, by_bit, bus_wire, node_wire, node_wires, differ, struck_wire}
use Rattle.text_wave.specs.WaveText.{line, scope_line, var_line, first_in, change_after, first_values}
use Rattle.text_wave.specs.WaveText.{changes_after, node_scope}
use Rattle.text_wave.specs.Inside.Changes.{level_values, number_values, node_values, level_changes, number_changes}
use Rattle.text_wave.specs.Inside.Changes.{node_changes, driven_before, driven_now, values_on, changes_on, all_values}
use Rattle.text_wave.specs.Inside.Changes.{all_changes}
use Rattle.text_wave.specs.Inside.Cursors.{cursor_at}
use Rattle.text_wave.specs.Inside.Probes.{Shows}
use Rattle.text_report.proofs.WrittenLines.Written.{two_texts}

-- ---- the levels that all drive

now_at : (k : ℕ) (probes : List Probe) (stories : List NodeStory) → EachRelated (Shows k) probes stories →
    driven_now probes ≡ map (λ (n : NodeValue). (last_bit (by_bit k n)).driven) (nodes_of stories)
now_at k [] [] shows = refl
now_at k [] (s ∷ stories) shows = absurd shows
now_at k (p ∷ probes) [] shows = absurd shows
now_at k (p ∷ probes) (s ∷ stories) shows =
    ap₂ (λ x xs. x ∷ xs) (ap (λ (c : Cursor). c.shows.driven) shows.0.cursor) (now_at k probes stories shows.1)

before_at : (k : ℕ) (probes : List Probe) (stories : List NodeStory) → EachRelated (Shows (suc k)) probes stories →
    driven_before probes ≡ map (λ (n : NodeValue). (last_bit (by_bit k n)).driven) (nodes_of stories)
before_at k [] [] shows = refl
before_at k [] (s ∷ stories) shows = absurd shows
before_at k (p ∷ probes) [] shows = absurd shows
before_at k (p ∷ probes) (s ∷ stories) shows =
    ap₂ (λ x xs. x ∷ xs) (ap (λ (c : Cursor). c.showed.driven) shows.0.cursor) (before_at k probes stories shows.1)

-- ---- the signals of one node

-- six texts, one after another
six : (g : Signal → List ℕ) (a b c d e f : Signal) →
    gathered g (a ∷ b ∷ c ∷ d ∷ e ∷ f ∷ []) ≡ g a ++ g b ++ g c ++ g d ++ g e ++ g f
six g a b c d e f = simp (append_assoc, append-nil)

-- and four
four : (g : Signal → List ℕ) (a b c d : Signal) →
    gathered g (a ∷ b ∷ c ∷ d ∷ []) ≡ g a ++ g b ++ g c ++ g d
four g a b c d = simp (append_assoc, append-nil)

-- what the journal says
of_levels : (g : Signal → List ℕ) (i : ℕ) (node : NodeValue) →
    gathered g (map Signal.wire (node_wires i node))
    ≡ g (wire (node_wire (codes "driven") (codes "d") shows_driven i node))
    ++ g (wire (node_wire (codes "seen") (codes "s") shows_seen i node))
    ++ g (wire (node_wire (codes "active") (codes "a") shows_active i node))
    ++ g (wire (node_wire (codes "off") (codes "f") shows_off i node))
    ++ g (wire (node_wire (codes "stored") (codes "m") shows_stored i node))
    ++ g (wire (node_wire (codes "overrun") (codes "o") shows_overrun i node))
of_levels g i node =
    six g (wire (node_wire (codes "driven") (codes "d") shows_driven i node))
    (wire (node_wire (codes "seen") (codes "s") shows_seen i node))
    (wire (node_wire (codes "active") (codes "a") shows_active i node))
    (wire (node_wire (codes "off") (codes "f") shows_off i node))
    (wire (node_wire (codes "stored") (codes "m") shows_stored i node))
    (wire (node_wire (codes "overrun") (codes "o") shows_overrun i node))

-- they were written
pub levels_written : (g : Signal → List ℕ) (i : ℕ) (node : NodeValue) (old new : List ℕ) →
    new ≡ old
    ++ (g (wire (node_wire (codes "driven") (codes "d") shows_driven i node))
    ++ g (wire (node_wire (codes "seen") (codes "s") shows_seen i node))
    ++ g (wire (node_wire (codes "active") (codes "a") shows_active i node))
    ++ g (wire (node_wire (codes "off") (codes "f") shows_off i node))
    ++ g (wire (node_wire (codes "stored") (codes "m") shows_stored i node))
    ++ g (wire (node_wire (codes "overrun") (codes "o") shows_overrun i node))) →
    new ≡ old ++ gathered g (map Signal.wire (node_wires i node))
levels_written g i node old new wrote = wrote ∙ ap (λ t. old ++ t) (sym (of_levels g i node))

-- what its bits brought
of_told : (g : Signal → List ℕ) (bus : Wire) (i : ℕ) (s : NodeStory) →
    gathered g (told_signals bus i s)
    ≡ g (number (node_number (codes "tec") (codes "t") tec_of i s))
    ++ g (number (node_number (codes "rec") (codes "r") rec_of i s))
    ++ g (wire (struck_wire bus i s.node))
    ++ g (number (node_number (codes "phase") (codes "p") phase_of i s))
of_told g bus i s =
    four g (number (node_number (codes "tec") (codes "t") tec_of i s))
    (number (node_number (codes "rec") (codes "r") rec_of i s)) (wire (struck_wire bus i s.node))
    (number (node_number (codes "phase") (codes "p") phase_of i s))

pub told_written : (g : Signal → List ℕ) (bus : Wire) (i : ℕ) (s : NodeStory) (old new : List ℕ) →
    new ≡ old
    ++ (g (number (node_number (codes "tec") (codes "t") tec_of i s))
    ++ g (number (node_number (codes "rec") (codes "r") rec_of i s))
    ++ g (wire (struck_wire bus i s.node))
    ++ g (number (node_number (codes "phase") (codes "p") phase_of i s))) →
    new ≡ old ++ gathered g (told_signals bus i s)
told_written g bus i s old new wrote = wrote ∙ ap (λ t. old ++ t) (sym (of_told g bus i s))

-- ---- the signals of all nodes

values_of : (bus : Wire) (i : ℕ) (p : Probe) (s : NodeStory) → Shows 0 p s →
    gathered first_in (node_signals bus i s) ≡ node_values (bus.at 0) i p
values_of bus i p s shows =
    gathered_append first_in (map Signal.wire (node_wires i s.node)) (told_signals bus i s)
    ∙ ap₂ (λ x y. x ++ y)
    (of_levels first_in i s.node ∙ ap (λ (c : Cursor). level_values i c.shows) (sym shows.cursor))
    (of_told first_in bus i s
    ∙ ap₂ (λ (g : Gauges) (c : Cursor). number_values i g (differ (bus.at 0) (is_recessive c.shows.seen)))
    (sym shows.shows) (sym shows.cursor))

values_at : (bus : Wire) (i : ℕ) (probes : List Probe) (stories : List NodeStory) →
    EachRelated (Shows 0) probes stories →
    gathered first_in (numbered (node_signals bus) i stories) ≡ numbered (node_values (bus.at 0)) i probes
values_at bus i [] [] shows = refl
values_at bus i [] (s ∷ stories) shows = absurd shows
values_at bus i (p ∷ probes) [] shows = absurd shows
values_at bus i (p ∷ probes) (s ∷ stories) shows =
    gathered_append first_in (node_signals bus i s) (numbered (node_signals bus) (i + 1) stories)
    ∙ ap₂ (λ x y. x ++ y) (values_of bus i p s shows.0) (values_at bus (i + 1) probes stories shows.1)

changes_of_one : (bus : Wire) (k i : ℕ) (p : Probe) (s : NodeStory) → Shows (suc k) p s →
    gathered (change_after k) (node_signals bus i s) ≡ node_changes (bus.at k) (bus.at (suc k)) i p
changes_of_one bus k i p s shows =
    gathered_append (change_after k) (map Signal.wire (node_wires i s.node)) (told_signals bus i s)
    ∙ ap₂ (λ x y. x ++ y)
    (of_levels (change_after k) i s.node
    ∙ ap (λ (c : Cursor). level_changes i c.showed c.shows) (sym shows.cursor))
    (of_told (change_after k) bus i s
    ∙ ap₂ (λ (g : Gauges) (h : Gauges). number_changes i g h
    (differ (bus.at k) (is_recessive (cursor_at (suc k) s.node).showed.seen))
    (differ (bus.at (suc k)) (is_recessive (cursor_at (suc k) s.node).shows.seen)))
    (sym shows.showed) (sym shows.shows)
    ∙ ap (λ (c : Cursor). number_changes i p.meter.showed p.meter.shows
    (differ (bus.at k) (is_recessive c.showed.seen)) (differ (bus.at (suc k)) (is_recessive c.shows.seen)))
    (sym shows.cursor))

changes_at : (bus : Wire) (k i : ℕ) (probes : List Probe) (stories : List NodeStory) →
    EachRelated (Shows (suc k)) probes stories →
    gathered (change_after k) (numbered (node_signals bus) i stories)
    ≡ numbered (node_changes (bus.at k) (bus.at (suc k))) i probes
changes_at bus k i [] [] shows = refl
changes_at bus k i [] (s ∷ stories) shows = absurd shows
changes_at bus k i (p ∷ probes) [] shows = absurd shows
changes_at bus k i (p ∷ probes) (s ∷ stories) shows =
    gathered_append (change_after k) (node_signals bus i s) (numbered (node_signals bus) (i + 1) stories)
    ∙ ap₂ (λ x y. x ++ y) (changes_of_one bus k i p s shows.0) (changes_at bus k (i + 1) probes stories shows.1)

-- ---- all signals

pub first_are : (probes : List Probe) (stories : List NodeStory) → EachRelated (Shows 0) probes stories →
    all_values probes ≡ first_values stories
first_are probes stories shows =
    let bus = bus_wire (nodes_of stories) in
    ap (λ levels. values_on (is_recessive (wired levels)) probes) (now_at 0 probes stories shows)
    ∙ ap (λ rest. line (codes "#0") ++ line (codes "$dumpvars") ++ first_in (wire bus) ++ rest ++ line (codes "$end"))
    (sym (values_at bus 0 probes stories shows))
    ∙ ap (λ t. t ++ line (codes "$end"))
    (append_assoc (line (codes "#0") ++ line (codes "$dumpvars")) (first_in (wire bus))
    (gathered first_in (numbered (node_signals bus) 0 stories)))

pub changes_are : (k : ℕ) (probes : List Probe) (stories : List NodeStory) →
    EachRelated (Shows (suc k)) probes stories → all_changes probes ≡ changes_after k stories
changes_are k probes stories shows =
    let bus = bus_wire (nodes_of stories) in
    ap₂ (λ before now. changes_on (is_recessive (wired before)) (is_recessive (wired now)) probes)
    (before_at k probes stories shows) (now_at (suc k) probes stories shows)
    ∙ ap (λ rest. change_after k (wire bus) ++ rest) (sym (changes_at bus k 0 probes stories shows))

-- ---- the scopes of all nodes

-- one of them: its opening, what the journal says, what its bits brought, and its end
pub scope_written : (bus : Wire) (i : ℕ) (s : NodeStory) (old t1 t2 t3 t4 : List ℕ) →
    t1 ≡ old ++ scope_line (codes "node" ++ decimal i) →
    t2 ≡ t1 ++ gathered var_line (map Signal.wire (node_wires i s.node)) →
    t3 ≡ t2 ++ gathered var_line (told_signals bus i s) → t4 ≡ t3 ++ line (codes "$upscope $end") →
    t4 ≡ old ++ node_scope bus i s
scope_written bus i s old t1 t2 t3 t4 p q r t =
    let a = scope_line (codes "node" ++ decimal i) in
    let b = gathered var_line (map Signal.wire (node_wires i s.node)) in
    let c = gathered var_line (told_signals bus i s) in
    let d = line (codes "$upscope $end") in
    two_texts old t3 t4 (a ++ gathered var_line (node_signals bus i s)) d
    (two_texts old t1 t3 a (gathered var_line (node_signals bus i s)) p
    (two_texts t1 t2 t3 b c q r
    ∙ ap (λ x. t1 ++ x) (sym (gathered_append var_line (map Signal.wire (node_wires i s.node))
    (told_signals bus i s))))) t

-- any node
no_story : NodeStory
no_story =
    record { node = record { journal = []; txerr = 0; rxerr = 0; done = []; activations = [] }; bits = [] }

-- what was written, and the scopes of the rest: one node more
pub scopes_next : (bus : Wire) (stories : List NodeStory) (i : ℕ) (old new whole : List ℕ) → i < length stories →
    ((s : NodeStory) → new ≡ old ++ node_scope bus i s) →
    old ++ numbered (node_scope bus) i (drop i stories) ≡ whole →
    new ++ numbered (node_scope bus) (i + 1) (drop (i + 1) stories) ≡ whole
scopes_next bus stories i old new whole less wrote so_far =
    let s = get_or stories i no_story in
    let rest = numbered (node_scope bus) (i + 1) (drop (i + 1) stories) in
    ap (λ t. t ++ rest) (wrote s) ∙ append_assoc old (node_scope bus i s) rest
    ∙ ap (λ l. old ++ numbered (node_scope bus) i l) (sym (drop_more stories i no_story less)) ∙ so_far
