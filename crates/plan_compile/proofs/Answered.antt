-- What is known of an answer that is not Err.
use Rattle.std.proofs.Common.{Result, Ok, Err, OnOk, IfOk}

pub if_ok : {T E : Type 0} {P Q : T → Type 0} (r : Result T E) → ((x : T) → P x → Q x) → IfOk r P → IfOk r Q
if_ok (Ok x) f h = f x h
if_ok (Err e) f h = h

pub ok_with : {T E : Type 0} {P : Type 0} (r : Result T E) → P → OnOk r P
ok_with (Ok x) p = p
ok_with (Err e) p = tt
