-- When a contract settles what a call answers. Assumes nothing.
use mathlib.Core.Path.{◌≡◌, sym, ap, ◌∙◌}

-- results that are shown alike are the same
abbrev pub Lossless : {A B : Type 0} → (shown : A → B) → Type 0
Lossless {A} shown = (r q : A) → shown r ≡ shown q → r ≡ q

-- so it is where each is got back from what is shown of it
pub got_back : {A B : Type 0} {shown : A → B} (back : B → A) → ((r : A) → back (shown r) ≡ r) → Lossless shown
got_back back same r q e = sym (same r) ∙ ap back e ∙ same q

-- what a caller learns, of the result and of the parameters at the exit, settles the result: it shows x, and there is no second one
pub record Settles {A E B : Type 0} (learnt : A → E → Type 0) (shown : A → B) (x : B) : Type 0 where
  pub says : (r : A) (e : E) → learnt r e → shown r ≡ x
  pub alone : (r q : A) (e f : E) → learnt r e → learnt q f → r ≡ q

-- it does where it says all of something that loses nothing
pub settled_by : {A E B : Type 0} {learnt : A → E → Type 0} {shown : A → B} {x : B} → Lossless shown → ((r : A) (e : E) → learnt r e → shown r ≡ x) → Settles learnt shown x
settled_by l says = record { says = says; alone = λ r q e f h k. l r q (says r e h ∙ sym (says q f k)) }

-- and most contracts say no more than that
pub settled : {A E B : Type 0} {shown : A → B} {x : B} → Lossless shown → Settles {E = E} (λ r e. shown r ≡ x) shown x
settled l = settled_by l (λ r e h. h)
