-- What holds of an answer, where there is one.
use Rattle.std.specs.Prelude.{IfOk, Result, Ok, Err}

pub if_ok : {X E : Type 0} (r : Result X E) (P Q : X → Type 0) → ((x : X) → P x → Q x) → IfOk r P → IfOk r Q
if_ok (Ok x) P Q f p = f x p
if_ok (Err e) P Q f p = tt
