-- One event after another of one link.
use Rattle.std.proofs.Common.{◌≡◌, ◌≢◌, ℕ, ◌<◌, Bool, true, false, List, [], ◌∷◌, ◌++◌, length, take, drop, refl, sym}
use Rattle.std.proofs.Common.{ap, ap₂, ◌∙◌, subst, arith, append_assoc, append-nil}
use Rattle.std.proofs.lemmas.List.{length-append}
use Rattle.std.proofs.Math.Seq.{drop-length}
use Rattle.can_node_rules.specs.declared.config.Config.{Config}
use Rattle.can_node_rules.specs.declared.request.Request.{Request}
use Rattle.sja_journal.specs.declared.down.Down.{Down}
use Rattle.sja_journal.specs.declared.up.Up.{Up}
use Rattle.sja_journal.specs.declared.up.Up.TheVariants.{Start as StartUp, Credit, Send as SendUp, Stop as StopUp}
use Rattle.sja_link.specs.declared.event.Event.{Event}
use Rattle.sja_link.specs.declared.event.Event.TheVariants.{Start, Get, Release, Send, SendDone, Stop, Take}
use Rattle.lemmas.specs.Gathering.{gathered, total}
use Rattle.sja_journal.specs.Lists.{messages}
use Rattle.sja_link.specs.World.{WorldValue, new_world, is_off, is_start, is_send, is_stop, credits_of}
use Rattle.sja_link.specs.WorldEvents.{Allowed, done, first_credit, IsEvent, Reached}
use Rattle.sja_link.specs.WorldEvents.Reached.{begun, next}
use Rattle.lemmas.proofs.Gathered.{gathered_push}
use Rattle.sja_thread_promises.specs.Linked.{bus_event}

-- a world with these lists
abbrev pub world : List Down → List Up → List Down → List Up → Bool → WorldValue
world put taken got given send =
    record { lists = record { put = put; taken = taken; got = got; given = given }; may_send = send }

-- some events lead to this world, among them just these of the bus
pub record Comes (acts : List Event) (w : WorldValue) : Type 0 where
  pub events : List Event
  pub reached : Reached events w
  pub order : gathered bus_event events ≡ acts

pub comes_first : Comes [] new_world
comes_first = record { events = []; reached = begun; order = refl }

-- an event more, of the bus or of the driver
pub comes_act : (acts : List Event) (w : WorldValue) (e : Event) → Comes acts w → IsEvent e → Allowed w e →
    Comes (acts ++ bus_event e) (done w e)
comes_act acts w e c is allowed = record {
  events = c.events ++ e ∷ [];
  reached = next e c.reached is allowed;
  order = gathered_push bus_event c.events e ∙ ap (λ (l : List Event). l ++ bus_event e) c.order;
}

comes_own : (acts : List Event) (w : WorldValue) (e : Event) → bus_event e ≡ [] → Comes acts w → IsEvent e →
    Allowed w e → Comes acts (done w e)
comes_own acts w e own c is allowed =
    subst (λ (l : List Event). Comes l (done w e)) (ap (λ (l : List Event). acts ++ l) own ∙ append-nil acts)
    (comes_act acts w e c is allowed)

-- ---- what comes next in a list

pub next_in : {A : Type 0} (xs ys : List A) (y : A) → take 1 (drop (length xs) (xs ++ y ∷ ys)) ≡ y ∷ []
next_in [] ys y = refl
next_in (x ∷ xs) ys y = next_in xs ys y

less_than : {A : Type 0} (xs ys : List A) (y : A) → length xs < length (xs ++ y ∷ ys)
less_than xs ys y = let e = length-append xs (y ∷ ys) in omega (arith, e)

module _ (acts : List Event) (put : List Down) (taken : List Up) (got : List Down) (given : List Up) (send : Bool)
    (c : Comes acts (world put taken got given send)) where
  -- the driver gets the next item
  pub comes_get : (x : Down) (waits : List Down) → put ≡ got ++ x ∷ waits → total is_stop given ≡ 0 →
      Comes acts (world put taken (got ++ x ∷ []) given send)
  comes_get x waits is running =
      let here : take 1 (drop (length got) put) ≡ x ∷ [] =
      ap (λ (l : List Down). take 1 (drop (length got) l)) is ∙ next_in got waits x in
      let less : length got < length put =
      subst (λ (l : List Down). length got < length l) (sym is) (less_than got waits x) in
      subst (λ (l : List Down). Comes acts (world put taken (got ++ l) given send)) here
      (comes_own acts (world put taken got given send) Get refl c tt (less, running))

  -- the bus takes the next item
  pub comes_take : (u : Up) (way : List Up) → given ≡ taken ++ u ∷ way →
      Comes (acts ++ Take ∷ []) (world put (taken ++ u ∷ []) got given send)
  comes_take u way is =
      let here : take 1 (drop (length taken) given) ≡ u ∷ [] =
      ap (λ (l : List Up). take 1 (drop (length taken) l)) is ∙ next_in taken way u in
      let less : length taken < length given =
      subst (λ (l : List Up). length taken < length l) (sym is) (less_than taken way u) in
      subst (λ (l : List Up). Comes (acts ++ Take ∷ []) (world put (taken ++ l) got given send)) here
      (comes_act acts (world put taken got given send) Take c tt less)

-- ---- where all that was given was taken

module _ (acts : List Event) (put : List Down) (given : List Up) (got : List Down) (send : Bool)
    (c : Comes acts (world put given got given send)) where
  -- a start is given and taken
  pub comes_start : (config : Config) → given ≡ [] →
      Comes (acts ++ Take ∷ []) (world put (given ++ StartUp config ∷ []) got (given ++ StartUp config ∷ []) send)
  comes_start config none =
      comes_take acts put given got (given ++ StartUp config ∷ []) send
      (comes_own acts (world put given got given send) (Start config) refl c tt none) (StartUp config) [] refl

  -- a stop
  pub comes_stop : total is_start given ≢ 0 → total is_stop given ≡ 0 →
      Comes (acts ++ Take ∷ []) (world put (given ++ StopUp ∷ []) got (given ++ StopUp ∷ []) send)
  comes_stop started running =
      comes_take acts put given got (given ++ StopUp ∷ []) send
      (comes_own acts (world put given got given send) Stop refl c tt
      (record { started = started; running = running })) StopUp [] refl

  -- the credit of the first message that was got and not released
  pub comes_release : (m : List ℕ) (released : List (List ℕ)) → messages got ≡ released ++ m ∷ [] →
      length (credits_of given) ≡ length released → total is_off got ≡ 0 → total is_stop given ≡ 0 →
      Comes (acts ++ Take ∷ [])
      (world put (given ++ Credit (length m) ∷ []) got (given ++ Credit (length m) ∷ []) send)
  comes_release m released is many on running =
      let left : drop (length (credits_of given)) (messages got) ≡ m ∷ [] =
      ap₂ (λ (n : ℕ) (l : List (List ℕ)). drop n l) many is ∙ first_of released in
      comes_take acts put given got (given ++ Credit (length m) ∷ []) send
      (subst (λ (l : List (List ℕ)). Comes acts (world put given got (given ++ first_credit l) send)) left
      (comes_own acts (world put given got given send) Release refl c tt
      (record {
        some = λ none. some_left (sym left ∙ none);
        on = on;
        running = running;
      })))
      (Credit (length m)) [] refl
    where
      first_of : (xs : List (List ℕ)) → drop (length xs) (xs ++ m ∷ []) ≡ m ∷ []
      first_of [] = refl
      first_of (x ∷ xs) = first_of xs

      some_left : m ∷ [] ≡ [] → ⊥
      some_left e = cc

  -- a request, where one may be sent
  sent : send ≡ true → (request : Request) → total is_start given ≢ 0 → total is_stop given ≡ 0 →
      Comes (acts ++ Take ∷ []) (world put (given ++ SendUp request ∷ []) got (given ++ SendUp request ∷ []) false)
  sent free request started running =
      comes_take acts put given got (given ++ SendUp request ∷ []) false
      (comes_own acts (world put given got given send) (Send request) refl c tt
      (record { started = started; running = running }, free)) (SendUp request) [] refl

  -- the request before it is done, since it was taken
  may_send_again : send ≡ false → Comes acts (world put given got given true)
  may_send_again busy =
      comes_own acts (world put given got given send) SendDone refl c tt
      (busy, ap (total is_send) (drop-length given))

-- a request: the one before it is done, if there was one
pub comes_send : (acts : List Event) (put : List Down) (given : List Up) (got : List Down) (send : Bool)
    (request : Request) → Comes acts (world put given got given send) → total is_start given ≢ 0 →
    total is_stop given ≡ 0 →
    Comes (acts ++ Take ∷ []) (world put (given ++ SendUp request ∷ []) got (given ++ SendUp request ∷ []) false)
comes_send acts put given got true request c started running =
    sent acts put given got true c refl request started running
comes_send acts put given got false request c started running =
    sent acts put given got true (may_send_again acts put given got false c refl) refl request started running

-- the driver gets these items too
pub comes_gets : (acts : List Event) (put : List Down) (taken : List Up) (got : List Down) (given : List Up)
    (send : Bool) (more rest : List Down) → Comes acts (world put taken got given send) → put ≡ got ++ (more ++ rest) →
    total is_stop given ≡ 0 → Comes acts (world put taken (got ++ more) given send)
comes_gets acts put taken got given send [] rest c is running =
    subst (λ (l : List Down). Comes acts (world put taken l given send)) (sym (append-nil got)) c
comes_gets acts put taken got given send (x ∷ more) rest c is running =
    subst (λ (l : List Down). Comes acts (world put taken l given send)) (append_assoc got (x ∷ []) more)
    (comes_gets acts put taken (got ++ x ∷ []) given send more rest
    (comes_get acts put taken got given send c x (more ++ rest) is running)
    (is ∙ sym (append_assoc got (x ∷ []) (more ++ rest))) running)
