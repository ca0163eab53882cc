-- Probes and the stories of their nodes, bit by bit.
use Rattle.std.proofs.Common.{◌≡◌, ℕ, ◌+◌, ◌<◌, ◌≤◌, zero, suc, List, [], ◌∷◌, ◌++◌, length, map, take, get_or}
use Rattle.std.proofs.Common.{refl, sym, ap, ap₂, ◌∙◌, subst, arith}
use Rattle.std.specs.Prelude.{slice_index_or}
use Rattle.std.proofs.lemmas.List.{take_more, take_all}
use Rattle.lemmas.specs.Related.{EachRelated}
use Rattle.sja_log.specs.Log.{NodeValue}
use Rattle.sja_replay.specs.declared.bit_event.BitEvent.{BitEvent}
use Rattle.text_wave.specs.declared.meter.Meter.{Meter}
use Rattle.text_wave.specs.declared.probe.Probe.{Probe}
use Rattle.text_wave.specs.Stories.{NodeStory, IsStory, nodes_of}
use Rattle.text_wave.specs.Views.{view_in}
use Rattle.text_wave.specs.Inside.Cursors.{advanced, cursor_at}
use Rattle.text_wave.specs.Inside.Meters.{gauges_of, IsReading}
use Rattle.text_wave.specs.Inside.Probes.{Begins, ShowedBefore, Shows, IsAtBit, BeginsAt, IsSameTo, GoesOn}
use Rattle.text_wave.specs.Inside.Probes.{Finishes, AreReading, AreFirst}
use Rattle.text_wave.proofs.BitByBit.NextSignals.{first_bit, next_bit}

-- ---- the first bit

pub begins : (n : NodeValue) (old new : Probe) → Begins n old → GoesOn old new → BeginsAt n new
begins n old new b g =
    let more = g.meter.reads n.journal 0 [] b.has in
    let story : NodeStory = record { node = n; bits = more.told } in
    record {
      story = story;
      node_is = refl;
      at = record {
        shows = record {
          cursor = g.cursor ∙ ap advanced b.cursor ∙ first_bit n;
          shows = more.shows;
          showed = tt;
        };
        has = more.has;
      };
    }

-- of the nodes so far
one_first : (probes : List Probe) (parts : List NodeStory) (p : Probe) (s : NodeStory) →
    EachRelated (IsAtBit 0) probes parts → IsAtBit 0 p s → EachRelated (IsAtBit 0) (probes ++ p ∷ []) (parts ++ s ∷ [])
one_first [] [] p s at one = (one, tt)
one_first [] (t ∷ parts) p s at one = absurd at
one_first (q ∷ probes) [] p s at one = absurd at
one_first (q ∷ probes) (t ∷ parts) p s at one = (at.0, one_first probes parts p s at.1 one)

one_node : (parts : List NodeStory) (s : NodeStory) → nodes_of (parts ++ s ∷ []) ≡ nodes_of parts ++ s.node ∷ []
one_node [] s = refl
one_node (t ∷ parts) s = ap (λ l. t.node ∷ l) (one_node parts s)

pub first_none : (nodes : List NodeValue) (probes : List Probe) → probes ≡ [] → AreFirst (take 0 nodes) probes
first_none nodes probes none =
    let P : List Probe → Type 0 = λ l. AreFirst (take 0 nodes) l in
    subst P (sym none) (record { parts = []; nodes_are = refl; at = tt })

pub first_more : (nodes : List NodeValue) (i : ℕ) (n : NodeValue) (probes all : List Probe) (p : Probe) →
    i < length nodes → n ≡ get_or nodes i n → AreFirst (take i nodes) probes → BeginsAt n p → all ≡ probes ++ p ∷ [] →
    AreFirst (take (i + 1) nodes) all
first_more nodes i n probes all p less is first one pushed =
    let P : List Probe → Type 0 = λ l. AreFirst (take (i + 1) nodes) l in
    let next : take (i + 1) nodes ≡ take i nodes ++ n ∷ [] =
    take_more nodes i n less ∙ ap (λ x. take i nodes ++ x ∷ []) (sym is) in
    subst P (sym pushed) (record {
      parts = first.parts ++ one.story ∷ [];
      nodes_are =
          one_node first.parts one.story ∙ ap₂ (λ l m. l ++ m ∷ []) first.nodes_are one.node_is ∙ sym next;
      at = one_first probes first.parts p one.story first.at one.at;
    })

pub first_all : (nodes : List NodeValue) (i : ℕ) (probes : List Probe) → length nodes ≤ i →
    AreFirst (take i nodes) probes → AreFirst nodes probes
first_all nodes i probes past first =
    let P : List NodeValue → Type 0 = λ l. AreFirst l probes in subst P (take_all i nodes past) first

-- ---- stories that begin alike

pub same_refl : (k : ℕ) (s : NodeStory) → IsSameTo k s s
same_refl k s = record { node_is = refl; same = λ i few. refl }

pub same_trans : (k : ℕ) (a b c : NodeStory) → IsSameTo k a b → IsSameTo k b c → IsSameTo k a c
same_trans k a b c p q = record { node_is = q.node_is ∙ p.node_is; same = λ i few. q.same i few ∙ p.same i few }

pub all_less : (j k : ℕ) (olds news : List NodeStory) → j ≤ k → EachRelated (IsSameTo k) olds news →
    EachRelated (IsSameTo j) olds news
all_less j k [] [] less same = tt
all_less j k [] (n ∷ news) less same = absurd same
all_less j k (o ∷ olds) [] less same = absurd same
all_less j k (o ∷ olds) (n ∷ news) less same = (
  record { node_is = same.0.node_is; same = λ i few. same.0.same i (omega (arith, few, less)) },
  all_less j k olds news less same.1,
)

pub same_nodes : (k : ℕ) (olds news : List NodeStory) → EachRelated (IsSameTo k) olds news →
    nodes_of news ≡ nodes_of olds
same_nodes k [] [] same = refl
same_nodes k [] (n ∷ news) same = absurd same
same_nodes k (o ∷ olds) [] same = absurd same
same_nodes k (o ∷ olds) (n ∷ news) same = ap₂ (λ x xs. x ∷ xs) same.0.node_is (same_nodes k olds news same.1)

-- ---- what a probe shows is what each such story has

showed_of : (k : ℕ) (m : Meter) (olds news : List BitEvent) →
    ((i : ℕ) → i ≤ k → view_in i news ≡ view_in i olds) → ShowedBefore k m olds → ShowedBefore k m news
showed_of zero m olds news same showed = tt
showed_of (suc k) m olds news same showed = showed ∙ ap gauges_of (sym (same k (omega arith)))

shows_of : (k : ℕ) (p : Probe) (old new : NodeStory) → IsAtBit k p old → IsSameTo k old new → Shows k p new
shows_of k p old new at same = record {
  cursor = at.shows.cursor ∙ ap (cursor_at k) (sym same.node_is);
  shows = at.shows.shows ∙ ap gauges_of (sym (same.same k (omega arith)));
  showed = showed_of k p.meter old.bits new.bits same.same at.shows.showed;
}

pub all_show : (k : ℕ) (probes : List Probe) (olds news : List NodeStory) → EachRelated (IsAtBit k) probes olds →
    EachRelated (IsSameTo k) olds news → EachRelated (Shows k) probes news
all_show k [] [] [] at same = tt
all_show k [] [] (n ∷ news) at same = absurd same
all_show k [] (o ∷ olds) news at same = absurd at
all_show k (p ∷ probes) [] news at same = absurd at
all_show k (p ∷ probes) (o ∷ olds) [] at same = absurd same
all_show k (p ∷ probes) (o ∷ olds) (n ∷ news) at same =
    (shows_of k p o n at.0 same.0, all_show k probes olds news at.1 same.1)

-- ---- a bit more

record OneOn (k : ℕ) (new : Probe) (s : NodeStory) : Type 0 where
  story : NodeStory
  at : IsAtBit (suc k) new story
  same : IsSameTo k s story

one_on : (k : ℕ) (old new : Probe) (s : NodeStory) → IsAtBit k old s → GoesOn old new → OneOn k new s
one_on k old new s at g =
    let more = g.meter.reads s.node.journal (suc k) s.bits at.has in
    let story : NodeStory = record { node = s.node; bits = more.told } in
    record {
      story = story;
      at = record {
        shows = record {
          cursor = g.cursor ∙ ap advanced at.shows.cursor ∙ next_bit k s.node;
          shows = more.shows;
          showed = g.meter.showed ∙ at.shows.shows ∙ ap gauges_of (sym (more.same k (omega arith)));
        };
        has = more.has;
      };
      same = record { node_is = refl; same = λ i few. more.same i (omega (arith, few)) };
    }

-- of all nodes
pub record AllOn (k : ℕ) (news : List Probe) (parts : List NodeStory) : Type 0 where
  pub stories : List NodeStory
  pub at : EachRelated (IsAtBit (suc k)) news stories
  pub same : EachRelated (IsSameTo k) parts stories

pub all_on : (k : ℕ) (olds news : List Probe) (parts : List NodeStory) → EachRelated (IsAtBit k) olds parts →
    EachRelated GoesOn olds news → AllOn k news parts
all_on k [] [] [] at on = record { stories = []; at = tt; same = tt }
all_on k [] [] (s ∷ parts) at on = absurd at
all_on k [] (n ∷ news) parts at on = absurd on
all_on k (o ∷ olds) news [] at on = absurd at
all_on k (o ∷ olds) [] (s ∷ parts) at on = absurd on
all_on k (o ∷ olds) (n ∷ news) (s ∷ parts) at on =
    let one = one_on k o n s at.0 on.0 in
    let rest = all_on k olds news parts at.1 on.1 in
    record { stories = one.story ∷ rest.stories; at = (one.at, rest.at); same = (one.same, rest.same) }

-- ---- all bits

pub record AllTold (k : ℕ) (parts : List NodeStory) : Type 0 where
  pub stories : List NodeStory
  pub are : EachRelated IsStory (nodes_of parts) stories
  pub same : EachRelated (IsSameTo k) parts stories

pub all_told : (k : ℕ) (olds news : List Probe) (parts : List NodeStory) → EachRelated (IsAtBit k) olds parts →
    EachRelated Finishes olds news → AllTold k parts
all_told k [] [] [] at on = record { stories = []; are = tt; same = tt }
all_told k [] [] (s ∷ parts) at on = absurd at
all_told k [] (n ∷ news) parts at on = absurd on
all_told k (o ∷ olds) news [] at on = absurd at
all_told k (o ∷ olds) [] (s ∷ parts) at on = absurd on
all_told k (o ∷ olds) (n ∷ news) (s ∷ parts) at on =
    let all = on.0 s.node.journal (suc k) s.bits at.0.has in
    let rest = all_told k olds news parts at.1 on.1 in
    let story : NodeStory = record { node = s.node; bits = all.told } in
    record {
      stories = story ∷ rest.stories;
      are = (record { node_is = refl; bits_are = all.are }, rest.are);
      same = (record { node_is = refl; same = λ i few. all.same i (omega (arith, few)) }, rest.same);
    }

-- each can be read on
pub all_reading : (k : ℕ) (probes : List Probe) (parts : List NodeStory) → EachRelated (IsAtBit k) probes parts →
    AreReading probes
all_reading k [] [] at = tt
all_reading k [] (s ∷ parts) at = absurd at
all_reading k (p ∷ probes) [] at = absurd at
all_reading k (p ∷ probes) (s ∷ parts) at = (
  record { journal = s.node.journal; bits = suc k; told = s.bits; has = at.0.has },
  all_reading k probes parts at.1,
)

pub reading_at : (probes : List Probe) (k : ℕ) (d : Probe) → AreReading probes → k < length probes →
    IsReading (slice_index_or probes k d).meter
reading_at [] k d are less = absurd (omega (arith, less))
reading_at (p ∷ probes) zero d are less = are.0
reading_at (p ∷ probes) (suc k) d are less = reading_at probes k d are.1 (omega (arith, less))
