-- Runs that are stuck, if at all, for want of a value.
use Rattle.std.proofs.Common.{◌≡◌, ℕ, zero, suc, ℤ, pos, ◌+ℤ◌, Bool, true, false, ◌&&◌, if◌then◌else◌, List, Result, Ok, Err, refl, sym, ap, subst, ◌∙◌, inl, inr}
use Rattle.affc_ast.specs.declared.tree.Cond.{Cond}
use Rattle.affc_ast.specs.Cause.{Cause, Overflow, ◌>>=◌}
use Rattle.affc_ast.specs.Conditions.{condition}
use Rattle.affc_ast.specs.Index.{in_int64, is_int64}
use Rattle.affc_ast.specs.Meaning.{State, Outcome, Ended, Stuck, then_do, reading, begun, turns}
use Rattle.affc_ast.specs.Fits.{is_true_at}
use Rattle.affc_ast.specs.Trace.{count_from}
use Rattle.affc_trace.specs.Law.{IsIn}
use Rattle.affc_trace.specs.Laws.{IsUnwritten}

unfoldable pub Wants : Outcome → Type 0
Wants (Ended t) = Unit {0}
Wants (Stuck cause n) = IsUnwritten cause

pub wants_ended : (t : State) → Wants (Ended t)
unfolding Wants
wants_ended t = tt

pub wants_then : (o : Outcome) (f : State → Outcome) → Wants o → ((t : State) → Wants (f t)) → Wants (then_do o f)
unfolding Wants
wants_then (Ended t) f w h = h t
wants_then (Stuck cause n) f w h = w

pub wants_reading : {A : Type 0} (r : Result A Cause) (x : A) (t : State) (f : A → Outcome) → r ≡ Ok x → Wants (f x) → Wants (reading r t f)
wants_reading r x t f e w = subst (λ q. Wants (reading q t f)) (sym e) w

pub wants_if : (b : Bool) (o u : Outcome) → (b ≡ true → Wants o) → (b ≡ false → Wants u) → Wants (if b then o else u)
wants_if true o u h k = h refl
wants_if false o u h k = k refl

pub int64_ok : (node : ℕ) (z : ℤ) → is_int64 z ≡ true → in_int64 node z ≡ Ok z
int64_ok node z e = ap (λ b. if b then Ok z else Err (Overflow node)) e

-- so many turns, after each of which the iterator is stepped within `int64_t`
pub wants_turns : (count node : ℕ) (x : ℤ) (body : ℤ → State → Outcome) (t : State)
    → ((y : ℤ) → IsIn y (count_from count x) → is_int64 (y +ℤ pos 1) ≡ true) → ((y : ℤ) (u : State) → IsIn y (count_from count x) → Wants (body y u)) → Wants (turns node count x body t)
wants_turns zero node x body t s h = wants_ended t
wants_turns (suc n) node x body t s h =
    wants_then (body x (begun t)) _ (h x (begun t) (inl refl)) (λ after.
    wants_reading (in_int64 node (x +ℤ pos 1)) (x +ℤ pos 1) after _ (int64_ok node (x +ℤ pos 1) (s x (inl refl)))
    (wants_turns n node (x +ℤ pos 1) body after (λ y i. s y (inr i)) (λ y u i. h y u (inr i))))

-- ---- reading

-- the condition is read as it is true or false, at any node
abbrev pub IsReadableCond : Cond → List ℤ → Type 0
IsReadableCond cond names = (node : ℕ) → condition cond node names ≡ Ok (is_true_at cond names)

pub bind_to : {A B : Type 0} (r : Result A Cause) (x : A) (f : A → Result B Cause) (y : B) → r ≡ Ok x → f x ≡ Ok y → r >>= f ≡ Ok y
bind_to r x f y e g = ap (λ q. q >>= f) e ∙ g

pub chosen : (b : Bool) (q : Result Bool Cause) (d : Bool) → (b ≡ true → q ≡ Ok d) → (if b then q else Ok false) ≡ Ok (b && d)
chosen true q d h = h refl
chosen false q d h = refl
