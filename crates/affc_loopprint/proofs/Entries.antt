-- What is given of each statement of a body is given of each assignment in it, under the loops and conditions round it.
use Rattle.std.proofs.Common.{◌≡◌, ℕ, zero, suc, List, [], ◌∷◌, ◌++◌, map, flat_map, Option, Some, refl, sym, ap, subst}
use Rattle.std.specs.Prelude.{slice_get}
use Rattle.std.proofs.lemmas.Option.{none-some, same_Some}
use Rattle.affc_ast.specs.declared.tree.ArrayId.{ArrayId}
use Rattle.affc_ast.specs.declared.tree.Cond.{Cond}
use Rattle.affc_ast.specs.declared.tree.Ix.{Ix}
use Rattle.affc_ast.specs.declared.tree.Local.{Local}
use Rattle.affc_ast.specs.declared.tree.Op.{Op}
use Rattle.affc_ast.specs.declared.tree.Rel.{Rel}
use Rattle.affc_ast.specs.declared.tree.Stmt.{Stmt}
use Rattle.affc_ast.specs.declared.tree.Stmt.TheVariants.{For, If, Assign, Block}
use Rattle.affc_ast.specs.declared.tree.Val.{Val}
use Rattle.affc_ast.specs.Denials.{denied}
use Rattle.affc_ast.specs.Recursion.{by_stmt}
use Rattle.affc_ast.specs.Trace.{Assignment, assignments_step, joined}
use Rattle.affc_domain.specs.Rounds.{Round, Loop, Test, rounds_step}
use Rattle.affc_cprint.proofs.Arms.{for_here, if_here, block_here}
use Rattle.affc_cprint.proofs.ReadBackValues.{Each}
use Rattle.affc_wellnamed.proofs.Induction.{every_stmt}

-- ---- Two lists, entry by entry

abbrev pub EachTwo : {A B : Type 0} → (A → B → Type 0) → List A → List B → Type 0
EachTwo P [] [] = Unit {0}
EachTwo P [] (y ∷ ys) = ⊥
EachTwo P (x ∷ xs) [] = ⊥
EachTwo P (x ∷ xs) (y ∷ ys) = P x y × EachTwo P xs ys

pub two_at : {A B : Type 0} (P : A → B → Type 0) (xs : List A) (ys : List B) (n : ℕ) (x : A) (y : B) → EachTwo P xs ys → slice_get xs n ≡ Some x → slice_get ys n ≡ Some y → P x y
two_at P [] ys n x y h e f = absurd (none-some x e)
two_at P (a ∷ xs) [] n x y h e f = absurd h
two_at P (a ∷ xs) (b ∷ ys) zero x y h e f = subst (λ u. P u y) (same_Some a x e) (subst (P a) (same_Some b y f) h.0)
two_at P (a ∷ xs) (b ∷ ys) (suc n) x y h e f = two_at P xs ys n x y h.1 e f

pub two_append : {A B : Type 0} (P : A → B → Type 0) (xs us : List A) (ys vs : List B) → EachTwo P xs ys → EachTwo P us vs → EachTwo P (xs ++ us) (ys ++ vs)
two_append P [] us [] vs h k = k
two_append P [] us (y ∷ ys) vs h k = absurd h
two_append P (x ∷ xs) us [] vs h k = absurd h
two_append P (x ∷ xs) us (y ∷ ys) vs h k = (h.0, two_append P xs us ys vs h.1 k)

two_mapped : {A B C : Type 0} (P : A → B → Type 0) (Q : C → B → Type 0) (f : A → C) → ((a : A) (b : B) → P a b → Q (f a) b) → (xs : List A) (ys : List B) → EachTwo P xs ys → EachTwo Q (map f xs) ys
two_mapped P Q f g [] [] h = tt
two_mapped P Q f g [] (y ∷ ys) h = absurd h
two_mapped P Q f g (x ∷ xs) [] h = absurd h
two_mapped P Q f g (x ∷ xs) (y ∷ ys) h = (g x y h.0, two_mapped P Q f g xs ys h.1)

joined_mapped : {A : Type 0} (f : Stmt → List A) (body : List Stmt) → joined (map f body) ≡ flat_map f body
joined_mapped f [] = refl
joined_mapped f (s ∷ body) = ap (λ l. f s ++ l) (joined_mapped f body)

-- ---- Statements

abbrev pub assigned : Option Op → ArrayId → List Ix → Val → Assignment
assigned op array subs value = record { op = op; array = array; subs = subs; value = value }

-- What is given of a statement, where some x stands for what is round it, is given of those in it; and what is wanted of an
-- assignment and what stands round it follows from one round outwards.
pub record Walk {X : Type 0} (P : X → Stmt → Type 0) (Q : X → List Round → Assignment → Type 0) (under : X → List ℕ → X) : Type 0 where
  pub loop : (x : X) (iter : List ℕ) (low : Ix) (rel : Rel) (high : Ix) (body : List Stmt) → P x (For iter low rel high body)
      → Each (P (under x iter)) body × ((rs : List Round) (a : Assignment) → Q (under x iter) rs a → Q x (Loop iter low rel high ∷ rs) a)
  pub test : (x : X) (cond : Cond) (body other : List Stmt) → P x (If cond body other)
      → Each (P x) body × ((rs : List Round) (a : Assignment) → Q x rs a → Q x (Test cond ∷ rs) a) × Each (P x) other × ((rs : List Round) (a : Assignment) → Q x rs a → Q x (Test (denied cond) ∷ rs) a)
  pub assign : (x : X) (op : Option Op) (array : ArrayId) (subs : List Ix) (value : Val) → P x (Assign op array subs value) → Q x [] (assigned op array subs value)
  pub block : (x : X) (ls : List Local) (body : List Stmt) → P x (Block ls body) → Each (P x) body

module _ {X : Type 0} (P : X → Stmt → Type 0) (Q : X → List Round → Assignment → Type 0) (under : X → List ℕ → X) (w : Walk P Q under) where
  abbrev Listed : Stmt → Type 0
  Listed s = (x : X) → P x s → EachTwo (Q x) (by_stmt rounds_step s) (by_stmt assignments_step s)

  bodies : (x : X) (body : List Stmt) → Each (P x) body → Each Listed body → EachTwo (Q x) (flat_map (by_stmt rounds_step) body) (flat_map (by_stmt assignments_step) body)
  bodies x [] h k = tt
  bodies x (s ∷ body) h k = two_append (Q x) (by_stmt rounds_step s) (flat_map (by_stmt rounds_step) body) (by_stmt assignments_step s) (flat_map (by_stmt assignments_step) body) (k.0 x h.0) (bodies x body h.1 k.1)

  inside : (x : X) (body : List Stmt) → Each (P x) body → Each Listed body → EachTwo (Q x) (joined (map (by_stmt rounds_step) body)) (joined (map (by_stmt assignments_step) body))
  inside x body h k =
      subst (λ rss. EachTwo (Q x) rss (joined (map (by_stmt assignments_step) body))) (sym (joined_mapped (by_stmt rounds_step) body))
      (subst (EachTwo (Q x) (flat_map (by_stmt rounds_step) body)) (sym (joined_mapped (by_stmt assignments_step) body)) (bodies x body h k))

  at : (x : X) (s : Stmt) (rss : List (List Round)) (as' : List Assignment) → by_stmt rounds_step s ≡ rss → by_stmt assignments_step s ≡ as' → EachTwo (Q x) rss as' → EachTwo (Q x) (by_stmt rounds_step s) (by_stmt assignments_step s)
  at x s rss as' e f h = subst (λ z. EachTwo (Q x) z (by_stmt assignments_step s)) (sym e) (subst (EachTwo (Q x) rss) (sym f) h)

  listed : (s : Stmt) → Listed s
  listed = every_stmt Listed (record {
    loop = λ iter low rel high body each x h.
        let p = w.loop x iter low rel high body h in
        at x (For iter low rel high body) _ _ (for_here rounds_step iter low rel high body) (for_here assignments_step iter low rel high body)
        (two_mapped (Q (under x iter)) (Q x) (λ rs. Loop iter low rel high ∷ rs) p.1 (joined (map (by_stmt rounds_step) body)) (joined (map (by_stmt assignments_step) body)) (inside (under x iter) body p.0 each));
    test = λ cond body other each each' x h.
        let p = w.test x cond body other h in
        let rss = joined (map (by_stmt rounds_step) body) in
        let rss' = joined (map (by_stmt rounds_step) other) in
        let as' = joined (map (by_stmt assignments_step) body) in
        let bs = joined (map (by_stmt assignments_step) other) in
        at x (If cond body other) _ _ (if_here rounds_step cond body other) (if_here assignments_step cond body other)
        (two_append (Q x) (map (λ rs. Test cond ∷ rs) rss) (map (λ rs. Test (denied cond) ∷ rs) rss') as' bs
        (two_mapped (Q x) (Q x) (λ rs. Test cond ∷ rs) p.1 rss as' (inside x body p.0 each)) (two_mapped (Q x) (Q x) (λ rs. Test (denied cond) ∷ rs) p.3 rss' bs (inside x other p.2 each')));
    assign = λ op array subs value x h. (w.assign x op array subs value h, tt);
    block = λ ls body each x h. at x (Block ls body) _ _ (block_here rounds_step ls body) (block_here assignments_step ls body) (inside x body (w.block x ls body h) each);
  })

  every_listed : (body : List Stmt) → Each Listed body
  every_listed [] = tt
  every_listed (s ∷ body) = (listed s, every_listed body)

  pub entries : (x : X) (body : List Stmt) → Each (P x) body → EachTwo (Q x) (flat_map (by_stmt rounds_step) body) (flat_map (by_stmt assignments_step) body)
  entries x body h = bodies x body h (every_listed body)
