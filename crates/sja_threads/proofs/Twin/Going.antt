-- A half names no thread's key, so it may go to another thread.
use mathlib.Core.List.{List}
use Prim.Native.Nat.{ℕ}
use base.Stored.{Coded}
use base.Shift.{Keyless}
use denote.RattleType.{RattleType}
use denote.Param.Send.{IsSend}
use Rattle.sja_threads.specs.Inside.Halves.{kept_owns, known_owns}
use Rattle.sja_threads.specs.contracts.kept_half.KeptHalf as Kept
use Rattle.sja_threads.specs.contracts.known_half.KnownHalf as Known

kept_keyless : {V : Type 0} (c : Coded V) (name : ℕ) (list : List V) → Keyless (kept_owns c name list)
unfolding kept_owns
kept_keyless c name list = tt

known_keyless : {V : Type 0} (c : Coded V) (name : ℕ) (list : List V) → Keyless (known_owns c name list)
unfolding known_owns
known_keyless c name list = tt

pub kept_send : (V : RattleType) → IsSend (Kept.the_row V)
kept_send V = record {
  owned = λ d vs. ((λ vss. (tt, ((λ uss. (tt, tt)), tt))), kept_keyless V.coded d.name d.list);
  leaving = λ k f vs. tt;
}

pub known_send : (V : RattleType) → IsSend (Known.the_row V)
known_send V = record {
  owned = λ d vs. (
    (λ vss. (tt, ((λ uss. (tt, tt)), tt))),
    known_keyless V.coded d.name
        d.list,
  );
  leaving = λ k f vs. tt;
}
