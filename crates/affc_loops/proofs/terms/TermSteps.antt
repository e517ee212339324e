-- The steps by which a sum is made.
use Rattle.std.proofs.Common.{◌≡◌, ℕ, zero, suc, ◌-◌, ◌<◌, ◌≤◌, ℤ, pos, negsuc, ◌<ℤ◌, ◌≤ℤ◌, neg_ℤ, List, [], ◌∷◌, ◌++◌, Option, Some, None, ◌+◌, take, drop, length, length-drop, refl, sym, ap, ◌∙◌, arith}
use Rattle.std.specs.Prelude.{unsigned_abs}
use Rattle.std.proofs.lemmas.Int.{ints}
use Rattle.affc_ast.specs.declared.tree.Ix.{Ix}
use Rattle.affc_ast.specs.declared.tree.Ix.TheVariants.{Lit, Neg, Mul, Add, Sub}
use Rattle.std.proofs.lemmas.List.{take_all}
use Rattle.affc_rows.specs.Forms.{Affine}
use Rattle.affc_loops.specs.Trees.{name_at, number, times, Term, and_more, sum_of, terms_from, form_tree}
use Rattle.affc_loops.specs.terms.Sums.{with_term, and_one, and_all, finished}

pub times_at : (n x : ℕ) → 1 < n → Mul (Lit (pos n)) (name_at x) ≡ times (n - 1) x
times_at zero x h = absurd (omega arith)
times_at (suc zero) x h = absurd (omega arith)
times_at (suc (suc m)) x h = let e : suc m ≡ suc (suc m) - 1 = omega arith in ap (λ k. times k x) e

pub times_one : (n x : ℕ) → n ≡ 1 → name_at x ≡ times (n - 1) x
times_one n x h = let e : 0 ≡ n - 1 = omega arith in ap (λ k. times k x) e

pub added_term : (e t : Ix) (c : ℤ) (n x : ℕ) → pos 0 <ℤ c → n ≡ unsigned_abs c → t ≡ times (n - 1) x → Add e t ≡ with_term e (c, x)
added_term e t (pos zero) n x h k s = absurd (omega (arith, ints))
added_term e t (pos (suc m)) n x h k s = let q : n - 1 ≡ m = omega (arith, ints) in ap (Add e) s ∙ ap (λ j. Add e (times j x)) q
added_term e t (negsuc m) n x h k s = absurd (omega (arith, ints))

pub taken_term : (e t : Ix) (c : ℤ) (n x : ℕ) → c <ℤ pos 0 → n ≡ unsigned_abs c → t ≡ times (n - 1) x → Sub e t ≡ with_term e (c, x)
taken_term e t (pos m) n x h k s = absurd (omega (arith, ints))
taken_term e t (negsuc m) n x h k s = let q : n - 1 ≡ m = omega (arith, ints) in ap (Sub e) s ∙ ap (λ j. Sub e (times j x)) q

pub no_term : (e : Ix) (c : ℤ) (x : ℕ) → c ≡ pos 0 → e ≡ with_term e (c, x)
no_term e (pos zero) x h = refl
no_term e (pos (suc m)) x h = absurd (omega (arith, ints))
no_term e (negsuc m) x h = absurd (omega (arith, ints))

pub step_more : (e : Ix) (c : ℤ) (x : ℕ) (ts : List Term) (k : ℤ) → and_more e ((c, x) ∷ ts) k ≡ and_more (with_term e (c, x)) ts k
step_more e (pos zero) x ts k = refl
step_more e (pos (suc m)) x ts k = refl
step_more e (negsuc m) x ts k = refl

-- ---- a sum term by term

some_sum : (ts : List Term) (e : Ix) (c : ℤ) → and_more e ts c ≡ finished (and_all (Some e) ts) c
some_sum [] e c = refl
some_sum ((c, x) ∷ ts) e k = step_more e c x ts k ∙ some_sum ts (with_term e (c, x)) k

pub sum_made : (ts : List Term) (c : ℤ) → sum_of ts c ≡ finished (and_all None ts) c
sum_made [] c = refl
sum_made ((pos zero, x) ∷ ts) c = sum_made ts c
sum_made ((pos (suc m), x) ∷ ts) c = some_sum ts (times m x) c
sum_made ((negsuc m, x) ∷ ts) c = some_sum ts (Neg (times m x)) c

pub all_append : (sum : Option Ix) (ts us : List Term) → and_all sum (ts ++ us) ≡ and_all (and_all sum ts) us
all_append sum [] us = refl
all_append sum (t ∷ ts) us = all_append (and_one sum t) ts us

pub first_added : (t : Ix) (c : ℤ) (n x : ℕ) → pos 0 <ℤ c → n ≡ unsigned_abs c → t ≡ times (n - 1) x → Some t ≡ and_one None (c, x)
first_added t (pos zero) n x h k s = absurd (omega (arith, ints))
first_added t (pos (suc m)) n x h k s = let q : n - 1 ≡ m = omega (arith, ints) in ap (λ y. Some y) s ∙ ap (λ j. Some (times j x)) q
first_added t (negsuc m) n x h k s = absurd (omega (arith, ints))

pub first_taken : (t : Ix) (c : ℤ) (n x : ℕ) → c <ℤ pos 0 → n ≡ unsigned_abs c → t ≡ times (n - 1) x → Some (Neg t) ≡ and_one None (c, x)
first_taken t (pos m) n x h k s = absurd (omega (arith, ints))
first_taken t (negsuc m) n x h k s = let q : n - 1 ≡ m = omega (arith, ints) in ap (λ y. Some (Neg y)) s ∙ ap (λ j. Some (Neg (times j x))) q

pub no_first : (c : ℤ) (x : ℕ) → c ≡ pos 0 → None ≡ and_one None (c, x)
no_first (pos zero) x h = refl
no_first (pos (suc m)) x h = absurd (omega (arith, ints))
no_first (negsuc m) x h = absurd (omega (arith, ints))

pub ends_plain : (e : Ix) (c : ℤ) → c ≡ pos 0 → e ≡ finished (Some e) c
ends_plain e (pos zero) h = refl
ends_plain e (pos (suc m)) h = absurd (omega (arith, ints))
ends_plain e (negsuc m) h = absurd (omega (arith, ints))

pub ends_added : (e : Ix) (c : ℤ) → pos 0 <ℤ c → Add e (Lit c) ≡ finished (Some e) c
ends_added e (pos zero) h = absurd (omega (arith, ints))
ends_added e (pos (suc m)) h = refl
ends_added e (negsuc m) h = absurd (omega (arith, ints))

pub ends_taken : (e : Ix) (c d : ℤ) → c <ℤ pos 0 → d ≡ neg_ℤ c → Sub e (Lit d) ≡ finished (Some e) c
ends_taken e (pos m) d h k = absurd (omega (arith, ints))
ends_taken e (negsuc m) d h k = ap (λ z. Sub e (Lit z)) k

pub number_plain : (c : ℤ) → pos 0 ≤ℤ c → Lit c ≡ number c
number_plain (pos n) h = refl
number_plain (negsuc n) h = absurd (omega (arith, ints))

pub number_negative : (c d : ℤ) → c <ℤ pos 0 → d ≡ neg_ℤ c → Neg (Lit d) ≡ number c
number_negative (pos n) d h k = absurd (omega (arith, ints))
number_negative (negsuc n) d h k = ap (λ z. Neg (Lit z)) k

pub form_made : (first from : ℕ) (f : Affine) → finished (and_all (and_all None (terms_from from (drop first f.coefs))) (terms_from 0 (take first f.coefs))) f.constant ≡ form_tree first from f
form_made first from f =
    let late : List Term = terms_from from (drop first f.coefs) in
    let early : List Term = terms_from 0 (take first f.coefs) in
    sym (sum_made (late ++ early) f.constant ∙ ap (λ s. finished s f.constant) (all_append None late early))

pub one_more_term : (sum : Option Ix) (c : ℤ) (cs : List ℤ) (from next : ℕ) → next ≡ from + 1 → and_all (and_one sum (c, from)) (terms_from next cs) ≡ and_all sum (terms_from from (c ∷ cs))
one_more_term sum c cs from next e = let q : next ≡ suc from = omega arith in ap (λ n. and_all (and_one sum (c, from)) (terms_from n cs)) q

pub form_case : (x : Ix) (first from : ℕ) (f : Affine) (cs : List ℤ) (s t : Option Ix) (k : ℤ) → x ≡ finished t k → t ≡ and_all s (terms_from 0 (take first cs))
    → s ≡ and_all None (terms_from from (take (length cs - first) (drop first cs))) → cs ≡ f.coefs → k ≡ f.constant → x ≡ form_tree first from f
form_case x first from f cs s t k e g h q r =
    let l : length (drop first cs) ≤ length cs - first = (let d : length (drop first cs) ≡ length cs - first = length-drop first cs in omega arith) in
    e
    ∙ ap (λ z. finished z k) g
    ∙ ap (λ z. finished (and_all z (terms_from 0 (take first cs))) k) h
    ∙ ap (λ z. finished (and_all (and_all None (terms_from from z)) (terms_from 0 (take first cs))) k) (take_all (length cs - first) (drop first cs) l)
    ∙ ap (λ z. finished (and_all (and_all None (terms_from from (drop first z))) (terms_from 0 (take first z))) k) q
    ∙ ap (finished (and_all (and_all None (terms_from from (drop first f.coefs))) (terms_from 0 (take first f.coefs)))) r
    ∙ form_made first from f
