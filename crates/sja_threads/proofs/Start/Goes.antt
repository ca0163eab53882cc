-- A closure may go to another thread where all that it holds may.
use mathlib.Core.List.{List, [], ◌∷◌}
use mir.Syntax.{Sym}
use denote.RattleType.{RattleType}
use denote.Param.Send.{IsSend, AllSend, recorded_send, struct_send}
use denote.Struct.Declared.{shape}
use denote.Struct.Field.{rows}
use denote.Struct.Tuple.{TupleAt, type_at, field_at, parts}

all_go : (Ts : List RattleType) → AllSend Ts → AllSend (rows (parts Ts))
all_go [] s = tt
all_go (T ∷ Ts) s = (s.0, all_go Ts s.1)

pub closure_goes : (ν : Sym) (Ts : List RattleType) → AllSend Ts → IsSend (TupleAt ν Ts)
closure_goes ν Ts s =
    recorded_send (field_at ν Ts).row _ _ (type_at ν Ts).to_one (struct_send (shape (type_at ν Ts)) (all_go Ts s))
