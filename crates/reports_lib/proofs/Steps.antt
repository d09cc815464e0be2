-- Lists that grow step by step.
use Rattle.std.proofs.Common.{◌≡◌, List, ◌++◌, ap, ◌∙◌, append_assoc}
use Rattle.std.specs.Prelude.{Result, Ok, Err, OnOk}

pub where_ok : {T E : Type 0} (P Q : Type 0) (r : Result T E) → (P → Q) → OnOk r P → OnOk r Q
where_ok P Q (Err e) then h = tt
where_ok P Q (Ok x) then h = then h

-- two steps, of which the last may fail
pub two_steps : {T E : Type 0} (r : Result (Unit {0}) E) (a0 a1 a2 k l : List T) → a1 ≡ a0 ++ k → OnOk r (a2 ≡ a1 ++ l) → OnOk r (a2 ≡ a0 ++ (k ++ l))
two_steps r a0 a1 a2 k l first last = where_ok _ _ r (λ (end : a2 ≡ a1 ++ l). end ∙ ap (λ x. x ++ l) first ∙ append_assoc a0 k l) last

-- four steps
steps_joined : {T : Type 0} (a0 a1 a2 a3 a4 k l m n : List T)
    → a1 ≡ a0 ++ k → a2 ≡ a1 ++ l → a3 ≡ a2 ++ m → a4 ≡ a3 ++ n → a4 ≡ a0 ++ (k ++ (l ++ (m ++ n)))
steps_joined a0 a1 a2 a3 a4 k l m n first second third last =
    last ∙ ap (λ x. x ++ n) (third ∙ ap (λ x. x ++ m) (second ∙ ap (λ x. x ++ l) first))
    ∙ append_assoc ((a0 ++ k) ++ l) m n ∙ append_assoc (a0 ++ k) l (m ++ n) ∙ append_assoc a0 k (l ++ (m ++ n))

-- of which the last may fail
pub four_steps : {T E : Type 0} (r : Result (Unit {0}) E) (a0 a1 a2 a3 a4 k l m n : List T)
    → a1 ≡ a0 ++ k → a2 ≡ a1 ++ l → a3 ≡ a2 ++ m → OnOk r (a4 ≡ a3 ++ n) → OnOk r (a4 ≡ a0 ++ (k ++ (l ++ (m ++ n))))
four_steps r a0 a1 a2 a3 a4 k l m n first second third last =
    where_ok _ _ r (steps_joined a0 a1 a2 a3 a4 k l m n first second third) last
