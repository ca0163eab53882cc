-- A start and a stop between pieces.
use Rattle.std.proofs.Common.{◌≡◌, ◌&&◌, not, ℕ, Bool, true, false, List, [], ◌∷◌}
use Rattle.std.specs.Prelude.{◌==◌, min, Option, Some, None}
use Rattle.std.proofs.Common.{◌++◌, map, refl, ◌∙◌, arith, if◌then◌else◌}
use Rattle.can_node_rules.specs.declared.config.Config.{Config}
use Rattle.can_node_rules.specs.Bits.{Bit}
use Rattle.can_node_rules.specs.Context.{ContextValue}
use Rattle.can_node_rules.specs.Pieces.Place.{AtReset}
use Rattle.can_node_rules.specs.Record.RecordEntry.{OneBit}
use Rattle.can_node_rules.specs.Effects.{along, recounted, with_tec, with_rec, with_start}
use Rattle.can_node_rules.specs.Cut.{IsOnBus}

-- in reset the context stays
pub along_rest : (c : ContextValue) (done bits : List Bit) → along c AtReset done (map OneBit bits) ≡ c
along_rest c done [] = refl
along_rest c done (b ∷ bits) = along_rest c (done ++ b ∷ []) bits

recounted_stays : (c : ContextValue) → IsOnBus c → IsOnBus (recounted c)
recounted_stays c stays = chosen (c.off && not c.listen)
  where
    chosen : (test : Bool) → IsOnBus (if test then record c { tec = 127; rec = 0 } else c)
    chosen true = omega arith
    chosen false = stays

tec_stays : (tec : Option ℕ) (c : ContextValue) → IsOnBus c → IsOnBus (with_tec tec c)
tec_stays None c stays = stays
tec_stays (Some n) c stays = chosen (n == 255)
  where
    chosen : (test : Bool) → IsOnBus (if test then record c { tec = 127; rec = 0; off = true } else
        record c { tec = min n 254; off = false })
    chosen true = omega arith
    chosen false = grind arith

rec_stays : (rec : Option ℕ) (c : ContextValue) → IsOnBus c → IsOnBus (with_rec rec c)
rec_stays None c stays = stays
rec_stays (Some n) c stays = chosen c.off
  where
    chosen : (test : Bool) → IsOnBus (if test then c else record c { rec = min n 255 })
    chosen true = stays
    chosen false = stays

-- a start keeps the node on the bus
pub start_stays : (config : Config) (c : ContextValue) → IsOnBus c → IsOnBus (with_start config c)
start_stays config c stays =
    let first = record c { listen = config.listen; self_test = config.self_test } in
    recounted_stays (with_rec config.rec (with_tec config.tec first))
    (rec_stays config.rec (with_tec config.tec first) (tec_stays config.tec first stays))

-- it keeps the request that is held, if any
pub start_holds : (config : Config) (c : ContextValue) → (with_start config c).held ≡ c.held
start_holds config c =
    let first = record c { listen = config.listen; self_test = config.self_test } in
    recounted_holds (with_rec config.rec (with_tec config.tec first))
    ∙ rec_holds config.rec (with_tec config.tec first) ∙ tec_holds config.tec first
  where
    recounted_holds : (c : ContextValue) → (recounted c).held ≡ c.held
    recounted_holds c = chosen (c.off && not c.listen)
      where
        chosen : (test : Bool) → (if test then record c { tec = 127; rec = 0 } else c).held ≡ c.held
        chosen true = refl
        chosen false = refl

    tec_holds : (tec : Option ℕ) (c : ContextValue) → (with_tec tec c).held ≡ c.held
    tec_holds None c = refl
    tec_holds (Some n) c = chosen (n == 255)
      where
        chosen : (test : Bool) → (if test then record c { tec = 127; rec = 0; off = true } else
            record c { tec = min n 254; off = false }).held ≡ c.held
        chosen true = refl
        chosen false = refl

    rec_holds : (rec : Option ℕ) (c : ContextValue) → (with_rec rec c).held ≡ c.held
    rec_holds None c = refl
    rec_holds (Some n) c = chosen c.off
      where
        chosen : (test : Bool) → (if test then c else record c { rec = min n 255 }).held ≡ c.held
        chosen true = refl
        chosen false = refl
