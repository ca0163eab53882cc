-- The nodes that are struck in each bit, marked strike by strike and time by time.
use Rattle.std.proofs.Common.{◌≡◌, ◌⊎◌, ◌↔◌, ◌+◌, ◌-◌, ◌*◌, ◌<◌, ◌≤◌, ℕ, List, [], ◌∷◌, ◌++◌, length, take, drop}
use Rattle.std.proofs.Common.{inl, inr, refl, sym, ap, ◌∙◌, subst, arith, add-one}
use Rattle.std.proofs.Math.Seq.{take-suc}
use Rattle.std.specs.Prelude.{slice_index_or, slice_set}
use Rattle.std.specs.List.{Contains}
use Rattle.std.proofs.lemmas.Bool.{cases_eq, cases_lt}
use Rattle.std.proofs.lemmas.List.{get_or_default, get_or-set_other, get_or-take, get_or-drop, get_or_past}
use Rattle.std.proofs.lemmas.List.{length-take-le, length-drop}
use Rattle.std.proofs.lemmas.Grind.{get_or-set_at}
use Rattle.std.proofs.lemmas.List.Elements.{at_from_Contains, Contains-push, Contains-push_cases, Contains-append_left}
use Rattle.std.proofs.lemmas.List.Elements.{Contains-append_cases, Contains-append_right}
use Rattle.sja_steps.specs.declared.strike.Strike.{Strike}
use Rattle.sja_steps.specs.Striking.{Hits, Strikes}
use Rattle.sja_bus.specs.declared.struck_nodes.StruckNodes.{StruckNodes}
use Rattle.sja_bus.specs.Inside.StrikesByBit.{IsAmong, IsMarked, IsMarkedWith, IsTableOf, IsUnhit}
use Rattle.sja_bus.specs.Inside.StrikesByBit.{IsHeld, IsUnstruck, Table, nobody}
use Rattle.sja_bus.proofs.Resting.WholeStretches.{not_among}
use Rattle.lemmas.proofs.Numbers.{earlier_or_last}

-- ---- the times of one strike

-- the first so many times of a strike
abbrev pub front : Strike → ℕ → Strike
front s times = record s { times = times }

-- a time more hits one bit more
pub one_more : (s : Strike) (times bit node : ℕ) → Hits (front s times) bit node → Hits (front s (times + 1)) bit node
one_more s times bit node h =
    record { of_node = h.of_node; time = h.time; few = let few = h.few in omega arith; now = h.now }

pub last_time : (s : Strike) (times bit node : ℕ) → s.node ≡ node → s.bit + times * s.every ≡ bit →
    Hits (front s (times + 1)) bit node
last_time s times bit node same now = record { of_node = same; time = times; few = omega arith; now = now }

pub once_less : (s : Strike) (times bit node : ℕ) → Hits (front s (times + 1)) bit node →
    Hits (front s times) bit node ⊎ ((s.node ≡ node) × (s.bit + times * s.every ≡ bit))
once_less s times bit node h =
    elim (cases_eq h.time times) [
      | inl last ↦ inr (h.of_node, ap (λ n. s.bit + n * s.every) (sym last) ∙ h.now)
      | inr other ↦ inl (record {
        of_node = h.of_node;
        time = h.time;
        few = let few = h.few in
            omega arith;
        now = h.now;
      })
    ]

-- ---- a bit more is marked

same_place : (bits : List StruckNodes) (at bit : ℕ) (d e : StruckNodes) → bit ≡ at → at < length bits →
    slice_index_or bits at d ≡ slice_index_or bits bit e
same_place bits at bit d e same within =
    get_or_default bits at d e within ∙ ap (λ n. slice_index_or bits n e) (sym same)

pub marked_more : (s : Strike) (times at : ℕ) (start old : List StruckNodes) (nodes d : StruckNodes) →
    s.bit + times * s.every ≡ at → at < length old → length old ≡ length start → IsMarked (front s times) start old →
    ((other : ℕ) → IsAmong other nodes ↔ (IsAmong other (slice_index_or old at d) ⊎ (other ≡ s.node))) →
    IsMarked (front s (times + 1)) start (slice_set old at nodes)
marked_more s times at start old nodes d here within long was added bit node e few below =
    elim (cases_eq bit at) [
      | inl same ↦
          let now : slice_index_or (slice_set old at nodes) bit e ≡ nodes =
          get_or-set_at old at bit nodes e same within in
          let before : slice_index_or old at d ≡ slice_index_or old bit e = same_place old at bit d e same within in
          let A : StruckNodes → Type 0 = λ x. IsAmong node x in (
            λ h. elim ((added node).0 (subst A now h)) [
              | inl marked ↦ elim ((was bit node e few below).0 (subst A before marked)) [
                | inl first ↦ inl first
                | inr hits ↦ inr (one_more s times bit node hits)
              ]
              | inr own ↦ inr (last_time s times bit node (sym own) (here ∙ sym same))
            ],
            λ h. subst A (sym now) ((added node).1 (elim h [
              | inl first ↦ inl (subst A (sym before) ((was bit node e few below).1 (inl first)))
              | inr hits ↦ elim (once_less s times bit node hits) [
                | inl less ↦ inl (subst A (sym before) ((was bit node e few below).1 (inr less)))
                | inr last ↦ inr (sym last.0)
              ]
            ])),
          )
      | inr other ↦
          let now : slice_index_or (slice_set old at nodes) bit e ≡ slice_index_or old bit e =
          get_or-set_other old at bit nodes e other in
          let A : StruckNodes → Type 0 = λ x. IsAmong node x in (
            λ h. elim ((was bit node e few below).0 (subst A now h)) [
              | inl first ↦ inl first
              | inr hits ↦ inr (one_more s times bit node hits)
            ],
            λ h. subst A (sym now) ((was bit node e few below).1 (elim h [
              | inl first ↦ inl first
              | inr hits ↦ elim (once_less s times bit node hits) [
                | inl less ↦ inr less
                | inr last ↦ absurd (other (sym last.1 ∙ here))
              ]
            ])),
          )
    ]

-- so many times of a strike hit all that it hits in these bits
pub marked_all : (s : Strike) (times : ℕ) (start old : List StruckNodes) → length old ≡ length start →
    ((bit node : ℕ) → bit < length start → Hits s bit node ↔ Hits (front s times) bit node) →
    IsMarked (front s times) start old → IsMarked s start old
marked_all s times start old long all was bit node d few below = (
  λ h. elim ((was bit node d few below).0 h) [ inl first ↦ inl first | inr hits ↦ inr ((all bit node few).1 hits) ],
  λ h. (was bit node d few below).1 (elim h [ inl first ↦ inl first | inr hits ↦ inr ((all bit node few).0 hits) ]),
)

-- ---- a strike more of a script

pub none_there : (s : Strike) → Contains {X = Strike} [] s → ⊥
none_there s h = let few : (at_from_Contains {X = Strike} [] s h).0 < 0 =
    (at_from_Contains {X = Strike} [] s h).1 in omega arith

-- one strike more
pub struck_push : (script : List Strike) (s : Strike) (bit node : ℕ) →
    Strikes (script ++ s ∷ []) bit node ↔ (Strikes script bit node ⊎ Hits s bit node)
struck_push script s bit node = (
  λ h. elim (Contains-push_cases script s h.strike h.in_script) [
    | inl before ↦ inl (record { strike = h.strike; in_script = before; hits = h.hits })
    | inr last ↦ inr (let P : Strike → Type 0 = λ x. Hits x bit node in subst P (sym last) h.hits)
  ],
  λ h. elim h [
    | inl by ↦ record {
      strike = by.strike;
      in_script = Contains-append_left script (s ∷ []) by.strike by.in_script;
      hits = by.hits;
    }
    | inr hits ↦ record { strike = s; in_script = Contains-push script s; hits = hits }
  ],
)

-- the strikes of two lists
pub struck_both : (a b : List Strike) (bit node : ℕ) →
    Strikes (a ++ b) bit node ↔ (Strikes a bit node ⊎ Strikes b bit node)
struck_both a b bit node = (
  λ h. elim (Contains-append_cases a b h.strike h.in_script) [
    | inl first ↦ inl (record { strike = h.strike; in_script = first; hits = h.hits })
    | inr then ↦ inr (record { strike = h.strike; in_script = then; hits = h.hits })
  ],
  λ h. elim h [
    | inl by ↦ record {
      strike = by.strike;
      in_script = Contains-append_left a b by.strike by.in_script;
      hits = by.hits;
    }
    | inr by ↦ record {
      strike = by.strike;
      in_script = Contains-append_right a b by.strike by.in_script;
      hits = by.hits;
    }
  ],
)

pub table_of_more : (script : List Strike) (s : Strike) (old new : Table) → IsTableOf script old →
    IsMarkedWith s old new → IsTableOf (script ++ s ∷ []) new
table_of_more script s old new was marked bit node few below =
    let count = marked.bits in let within : bit < old.bits = omega (arith, few, count) in
    let at = marked.nodes bit node within below in let is = was bit node within below in
    let push = struck_push script s bit node in (
      λ h. push.1 (elim (at.0 h) [ inl before ↦ inl (is.0 before) | inr hits ↦ inr hits ]),
      λ h. at.1 (elim (push.0 h) [ inl before ↦ inl (is.1 before) | inr hits ↦ inr hits ]),
    )

-- a strike is marked in a table, behind whose first bits nobody was struck
pub marked_with : (s : Strike) (most len : ℕ) (was mid now : List StruckNodes) (nodes : StruckNodes) →
    len ≡ length was → length mid ≡ most → ((node : ℕ) → IsAmong node nodes → ⊥) →
    ((k : ℕ) (d : StruckNodes) → k < most → k < len → slice_index_or mid k d ≡ slice_index_or was k d) →
    ((k : ℕ) (d : StruckNodes) → len ≤ k → k < most → slice_index_or mid k d ≡ nodes) → IsMarked s mid now →
    IsMarkedWith s (record { bits = most; nodes = was }) (record { bits = most; nodes = now })
marked_with s most len was mid now nodes same long none first then marked = record {
  bits = refl;
  nodes = λ bit node few below.
      let is = marked bit node nobody (omega (arith, few, long)) below in
      let A : StruckNodes → Type 0 = λ x. IsAmong node x in
      elim (cases_lt bit len) [
        | inl early ↦ let e = first bit nobody few early in (
          λ h. elim (is.0 h) [ inl m ↦ inl (subst A e m) | inr hit ↦ inr hit ],
          λ h. is.1 (elim h [ inl m ↦ inl (subst A (sym e) m) | inr hit ↦ inr hit ]),
        )
        | inr late ↦
            let e = then bit nobody late few in
            let out = get_or_past was bit nobody (omega (arith, late, same)) in (
              λ h. elim (is.0 h) [ inl m ↦ absurd (none node (subst A e m)) | inr hit ↦ inr hit ],
              λ h. is.1 (elim h [ inl m ↦ absurd (not_among node (subst A out m)) | inr hit ↦ inr hit ]),
            )
      ];
}

-- ---- bits in which nobody is struck

pub calm_more : (struck : List StruckNodes) (k : ℕ) (e : StruckNodes) → k < length struck →
    ((node : ℕ) → IsAmong node (slice_index_or struck k e) → ⊥) →
    ((bit node : ℕ) (d : StruckNodes) → bit < k → IsAmong node (slice_index_or struck bit d) → ⊥) →
    (bit node : ℕ) (d : StruckNodes) → bit < k + 1 → IsAmong node (slice_index_or struck bit d) → ⊥
calm_more struck k e few none before bit node d near = elim (earlier_or_last bit k near) [
  | inl earlier ↦ before bit node d earlier
  | inr now ↦
      let P : StruckNodes → Type 0 = λ x. IsAmong node x → ⊥ in
      let Q : ℕ → Type 0 = λ n. IsAmong node (slice_index_or struck n d) → ⊥ in
      subst Q (sym now) (subst P (get_or_default struck k e d few) (none node))
]

-- up to one, and then in a part from it on
pub calm_part : (struck : List StruckNodes) (from at part : ℕ) → at ≤ part → part ≤ length struck →
    ((bit node : ℕ) (d : StruckNodes) → from ≤ bit → bit < at → IsAmong node (slice_index_or struck bit d) → ⊥) →
    ((bit node : ℕ) (d : StruckNodes) → bit < length (take (part - at) (drop at struck)) →
    IsAmong node (slice_index_or (take (part - at) (drop at struck)) bit d) → ⊥) →
    (bit node : ℕ) (d : StruckNodes) → from ≤ bit → bit < part → IsAmong node (slice_index_or struck bit d) → ⊥
calm_part struck from at part low high before more bit node d late early hit = elim (cases_lt bit at) [
  | inl first ↦ before bit node d late first hit
  | inr then ↦
      let rest = length-drop at struck in
      let long = length-take-le (part - at) (drop at struck) (omega (arith, low, high, rest)) in
      let near : bit - at < part - at = omega (arith, then, early) in
      let is : slice_index_or (take (part - at) (drop at struck)) (bit - at) d
      ≡ slice_index_or struck (at + (bit - at)) d =
      get_or-take (part - at) (drop at struck) (bit - at) d near ∙ get_or-drop at struck (bit - at) d in
      let here : at + (bit - at) ≡ bit = omega (arith, then) in
      let P : StruckNodes → Type 0 = λ x. IsAmong node x in
      let Q : ℕ → Type 0 = λ n. IsAmong node (slice_index_or struck n d) in
      more (bit - at) node d (omega (arith, near, long)) (subst P (sym is) (subst Q (sym here) hit))
]

-- ---- strikes of a list, one after the other

-- those so far, and the next one
pub struck_next : (script : List Strike) (k : ℕ) (s : Strike) (bit node : ℕ) → k < length script →
    s ≡ slice_index_or script k s →
    Strikes (take (k + 1) script) bit node ↔ (Strikes (take k script) bit node ⊎ Hits s bit node)
struck_next script k s bit node few is =
    let next : take (k + 1) script ≡ take k script ++ s ∷ [] =
    rw add-one (take-suc script k s few) ∙ ap (λ x. take k script ++ x ∷ []) (sym is) in
    let P : List Strike → Type 0 = λ l. Strikes l bit node ↔ (Strikes (take k script) bit node ⊎ Hits s bit node) in
    subst P (sym next) (struck_push (take k script) s bit node)

-- the next bit that one of them hits
pub sooner_next : (script : List Strike) (k : ℕ) (s : Strike) (from next now end : ℕ) → k < length script →
    s ≡ slice_index_or script k s → now ≤ next → IsUnstruck (take k script) from next →
    (next ≡ end) ⊎ ((node : ℕ) × (node < 8) × Strikes (take k script) next node) → IsUnhit s from now →
    (now ≡ next) ⊎ ((s.node < 8) × Hits s now s.node) →
    IsUnstruck (take (k + 1) script) from now
    × ((now ≡ end) ⊎ ((node : ℕ) × (node < 8) × Strikes (take (k + 1) script) now node))
sooner_next script k s from next now end few is on before stop unhit which = (
  λ bit node low high below h. elim ((struck_next script k s bit node few is).0 h) [
    | inl first ↦ before bit node low (omega (arith, high, on)) below first
    | inr hits ↦ unhit bit node low high below hits
  ],
  elim which [
    | inr hit ↦ inr (s.node, hit.0, (struck_next script k s now s.node few is).1 (inr hit.1))
    | inl same ↦ elim stop [
      | inl all ↦ inl (same ∙ all)
      | inr (node, low, h) ↦ inr (
        node,
        low,
        (struck_next script k s now node few is).1
            (inl (let P : ℕ → Type 0 = λ n. Strikes (take k script) n node in subst P (sym same) h)),
      )
    ]
  ],
)

-- ---- how it is held whom a script strikes, after one strike more

-- where the next bit that is struck isn't known any more
pub held_anew : (script : List Strike) (bits : ℕ) (old new : Table) (from to : ℕ) (s : Strike) →
    IsHeld script bits old from to → IsMarkedWith s old new → IsHeld (script ++ s ∷ []) bits new 1 0
held_anew script bits old new from to s was marked = record {
  table_is = table_of_more script s old new was.table_is marked;
  few = λ few. marked.bits ∙ was.few few;
  counted = was.counted;
  within = omega arith;
  calm = λ bit node low high. absurd (omega (arith, high));
  stop = λ no. absurd (omega (arith, no));
}

-- where the strike comes after it
pub held_more : (script : List Strike) (bits : ℕ) (old new : Table) (from to : ℕ) (s : Strike) → to < s.bit →
    IsHeld script bits old from to → IsMarkedWith s old new → IsHeld (script ++ s ∷ []) bits new from to
held_more script bits old new from to s after was marked = record {
  table_is = table_of_more script s old new was.table_is marked;
  few = λ few. marked.bits ∙ was.few few;
  counted = was.counted;
  within = was.within;
  calm = λ bit node low high below h. elim ((struck_push script s bit node).0 h) [
    | inl before ↦ was.calm bit node low high below before
    | inr hits ↦ let now = hits.now in absurd (omega (arith, now, high, after))
  ];
  stop = λ known. elim (was.stop known) [
    | inl end ↦ inl end
    | inr (node, low, h) ↦ inr (node, low, (struck_push script s to node).1 (inl h))
  ];
}
