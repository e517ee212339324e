-- Where a source's run ends, all that it comes to is read and done.
use Rattle.std.proofs.Common.{◌≡◌, ℕ, zero, suc, ◌+◌, ◌<◌, ◌≤◌, ℤ, pos, ◌+ℤ◌, Bool, true, false, true≢false, T, ◌&&◌, if◌then◌else◌, int_le, List, [], ◌∷◌, ◌++◌, length, map, flat_map, sum_by, Some, Result, Ok, Err, refl, sym, ap, subst, ◌∙◌, inl, inr, arith}
use Rattle.std.specs.Prelude.{slice_get, not}
use Rattle.std.proofs.lemmas.Option.{none-some, same_Some, slice_get_within}
use Rattle.affc_ast.specs.declared.tree.Cond.{Cond}
use Rattle.affc_ast.specs.declared.tree.Ix.{Ix}
use Rattle.affc_ast.specs.declared.tree.Program.{Program}
use Rattle.affc_ast.specs.declared.tree.Rel.{Rel}
use Rattle.affc_ast.specs.declared.tree.Stmt.{Stmt}
use Rattle.affc_ast.specs.declared.tree.Stmt.TheVariants as s
use Rattle.affc_ast.specs.declared.tree.Stmt.TheBlock.{Row_of-Stmt, more_of-Stmt, end_of-Stmt}
use Rattle.affc_ast.specs.Cause.{Cause}
use Rattle.affc_ast.specs.Conditions.{nodes_of_cond, condition}
use Rattle.affc_ast.specs.Denials.{denied}
use Rattle.affc_ast.specs.Fits.{whole, is_true_at}
use Rattle.affc_ast.specs.Index.{in_int64, index_value, nodes_of_ix, nodes_of_compare}
use Rattle.affc_ast.specs.Meaning.{State, Outcome, Ended, Stuck, Position, then_do, reading, begun, turns_of, turns, in_order, with_iterator, inside, past, past_all, assigned, stmt_step, denotation_of, all_extents, arrays_of, nodes_of_decls, meaning}
use Rattle.affc_ast.specs.Recursion.{by_stmt, by_each}
use Rattle.affc_ast.specs.Trace.{count_from, Assignment, assignments_step, assignments}
use Rattle.affc_ast.specs.Values.{Scope}
use Rattle.affc_ast.specs.Store.{Store}
use Rattle.affc_ast.proofs.ConditionReadings.{condition_is_true}
use Rattle.affc_ast.proofs.DenialLemmas.{denial}
use Rattle.affc_ast.proofs.Steps.{row_of, unrolled, flat_unrolled}
use Rattle.affc_trace.specs.Effects.{all_true, plain_step, has_no_locals}
use Rattle.affc_trace.specs.Law.{IsIn}
use Rattle.affc_trace.proofs.EndedReads.{is_whole, ok_if, append_assoc}
use Rattle.affc_trace.proofs.LastStores.{append_nil}
use Rattle.affc_trace.proofs.Runs.{part_count, parts_count, walk_count, walks_count, both_true as both_parts}
use Rattle.affc_domain.specs.Rounds.{Round, Loop, Test, rounds_step, rounds, goes_on, turns as all_turn}
use Rattle.affc_safe.proofs.Along.{IsRead, IsReadCond, IsDone, Comes}
use Rattle.affc_safe.proofs.Denied.{denied_is_read}
use Rattle.affc_domain.proofs.Lists.{both_true, from_append, from_map, length_map}
use Rattle.affc_domain.proofs.TurnLemmas.{rounds_count, row_rounds_count, to_turn}

-- ---- runs that end

abbrev IsEnded : Outcome → Type 0
IsEnded (Ended t) = Unit {0}
IsEnded (Stuck cause n) = ⊥

pub reading_ended : {A : Type 0} (r : Result A Cause) (t : State) (f : A → Outcome) (u : State) → reading r t f ≡ Ended u → (x : A) × (r ≡ Ok x) × (f x ≡ Ended u)
reading_ended (Ok x) t f u e = (x, refl, e)
reading_ended (Err cause) t f u e = absurd (subst IsEnded (sym e) tt)

pub then_ended : (o : Outcome) (f : State → Outcome) (u : State) → then_do o f ≡ Ended u → (t : State) × (o ≡ Ended t) × (f t ≡ Ended u)
then_ended (Ended t) f u e = (t, refl, e)
then_ended (Stuck cause n) f u e = absurd (subst IsEnded (sym e) tt)

turns_ended : (count node : ℕ) (x : ℤ) (body : ℤ → State → Outcome) (t u : State) → turns node count x body t ≡ Ended u
    → (y : ℤ) → IsIn y (count_from count x) → (t' : State) × (u' : State) × (body y t' ≡ Ended u')
turns_ended zero node x body t u e y i = absurd i
turns_ended (suc n) node x body t u e y i =
    let a = then_ended (body x (begun t)) _ u e in
    let b = reading_ended (in_int64 node (x +ℤ pos 1)) a.0 _ u a.2 in
    one n node x body t u a.0 a.1 b.0 b.1 b.2 y i (turns_ended n node b.0 body a.0 u b.2)
  where
    one : (n node : ℕ) (x : ℤ) (body : ℤ → State → Outcome) (t u t' : State) → body x (begun t) ≡ Ended t' → (z : ℤ) → in_int64 node (x +ℤ pos 1) ≡ Ok z → turns node n z body t' ≡ Ended u
        → (y : ℤ) → IsIn y (count_from (suc n) x) → ((y : ℤ) → IsIn y (count_from n z) → (t' : State) × (u' : State) × (body y t' ≡ Ended u')) → (t' : State) × (u' : State) × (body y t' ≡ Ended u')
    one n node x body t u t' first z e rest y (inl q) others = (begun t, t', ap (λ v. body v (begun t)) q ∙ first)
    one n node x body t u t' first z e rest y (inr i) others = others y (subst (λ v. IsIn y (count_from n v)) (ok_if _ _ _ _ e) i)

read_at : (e : Ix) (names : List ℤ) (node : ℕ) (x : ℤ) → index_value e node names ≡ Ok x → IsRead e names
read_at e names node x h = (node, h ∙ ap (λ z. Ok z) (sym (is_whole e names node x h)))

read_cond_at : (cond : Cond) (names : List ℤ) (node : ℕ) (b : Bool) → condition cond node names ≡ Ok b → IsReadCond cond names
read_cond_at cond names node b h = (node, h ∙ ap (λ z. Ok z) (sym (condition_is_true cond names node b h)))

abbrev joined_rounds : {n : _} → Row_of-Stmt n → List (List Round)
joined_rounds body = flat_map (λ a. a) (by_each rounds_step body)

abbrev joined_assignments : {n : _} → Row_of-Stmt n → List Assignment
joined_assignments body = flat_map (λ a. a) (by_each assignments_step body)

-- this many-th statement comes to what it reads and does
abbrev ComesAt : List (List Round) → List Assignment → (names : List ℤ) → (extents : List (List ℤ)) → Type 0
ComesAt rss as' names extents = (m : ℕ) (rs : List Round) (a : Assignment) → slice_get rss m ≡ Some rs → slice_get as' m ≡ Some a → (xs : List ℤ) → Comes rs a names xs extents

as_many : (x : Stmt) → length (by_stmt rounds_step x) ≡ length (by_stmt assignments_step x)
as_many x = rounds_count [] x ∙ walk_count [] x ∙ part_count x

row_as_many : {n : _} (body : Row_of-Stmt n) → length (joined_rounds body) ≡ length (joined_assignments body)
row_as_many body = row_rounds_count [] body ∙ walks_count [] body ∙ parts_count body

out_of : {A : Type 0} (xs : List A) (m : ℕ) (x : A) → slice_get xs m ≡ Some x → length xs ≤ m → ⊥
out_of xs m x e l = let h : m < length xs = slice_get_within xs m x e in omega arith

from_both : (rss qss : List (List Round)) (as' bs : List Assignment) (names : List ℤ) (extents : List (List ℤ)) → length rss ≡ length as'
    → ComesAt rss as' names extents → ComesAt qss bs names extents → ComesAt (rss ++ qss) (as' ++ bs) names extents
from_both rss qss as' bs names extents l first second m rs a e f xs = elim (from_append rss qss m rs e) [
  | inl g ↦ elim (from_append as' bs m a f) [
    | inl h ↦ first m rs a g h xs
    | inr h ↦ absurd (out_of rss m rs g (let q : m ≡ length as' + h.0 = h.1 in omega arith))
  ]
  | inr g ↦ elim (from_append as' bs m a f) [
    | inl h ↦ absurd (out_of as' m a h (let q : m ≡ length rss + g.0 = g.1 in omega arith))
    | inr h ↦ second g.0 rs a g.2 (let q : m ≡ length rss + g.0 = g.1 in let r : m ≡ length as' + h.0 = h.1 in let same : h.0 ≡ g.0 = omega arith in ap (slice_get bs) (sym same) ∙ h.2) xs
  ]
]

comes_loop : (iter : List ℕ) (low : Ix) (rel : Rel) (high : Ix) (rs : List Round) (a : Assignment) (names : List ℤ) (extents : List (List ℤ)) (xs : List ℤ)
    → IsRead low names → IsRead high names
    → ((x : ℤ) → int_le (whole low names) x ≡ true → goes_on rel x (whole high names) ≡ true → (ys : List ℤ) → Comes rs a (names ++ x ∷ []) ys extents)
    → Comes (Loop iter low rel high ∷ rs) a names xs extents
comes_loop iter low rel high rs a names extents [] l h inner = record { along = tt; done = λ r. absurd (true≢false (sym r)) }
comes_loop iter low rel high rs a names extents (x ∷ xs) l h inner = record {
  along = (l, h, λ e f. (inner x e f xs).along);
  done = λ r.
      let b = both_true (int_le (whole low names) x) (goes_on rel x (whole high names) && all_turn rs (names ++ x ∷ []) xs) r in
      let c = both_true (goes_on rel x (whole high names)) (all_turn rs (names ++ x ∷ []) xs) b.1 in
      subst (λ n. IsDone a n extents) (append_assoc names (x ∷ []) xs) ((inner x b.0 c.0 xs).done c.1);
}

comes_test : (cond : Cond) (rs : List Round) (a : Assignment) (names : List ℤ) (extents : List (List ℤ)) (xs : List ℤ)
    → IsReadCond cond names → (is_true_at cond names ≡ true → Comes rs a names xs extents) → Comes (Test cond ∷ rs) a names xs extents
comes_test cond rs a names extents xs r inner = record {
  along = (r, λ h. (inner h).along);
  done = λ l. let b = both_true (is_true_at cond names) (all_turn rs names xs) l in (inner b.0).done b.1;
}

-- all that stands under a condition
under_test : (cond : Cond) (rss : List (List Round)) (as' : List Assignment) (names : List ℤ) (extents : List (List ℤ))
    → IsReadCond cond names → (is_true_at cond names ≡ true → ComesAt rss as' names extents) → ComesAt (map (λ rs. Test cond ∷ rs) rss) as' names extents
under_test cond rss as' names extents r inner m rs a g f xs =
    let q = from_map (λ rs. Test cond ∷ rs) rss m rs g in
    subst (λ rs. Comes rs a names xs extents) (sym q.2) (comes_test cond q.0 a names extents xs r (λ h. inner h m q.0 a q.1 f xs))

comes_here : (a : Assignment) (names : List ℤ) (extents : List (List ℤ)) (xs : List ℤ) → IsDone a names extents → Comes [] a names xs extents
comes_here a names extents [] d = record { along = tt; done = λ r. subst (λ n. IsDone a n extents) (sym (append_nil names)) d }
comes_here a names extents (x ∷ xs) d = record { along = tt; done = λ r. absurd (true≢false (sym r)) }

if_ended : (b : Bool) (o o' : Outcome) (u : State) → b ≡ true → (if b then o else o') ≡ Ended u → o ≡ Ended u
if_ended true o o' u h e = e
if_ended false o o' u h e = absurd (true≢false (sym h))

else_ended : (b : Bool) (o o' : Outcome) (u : State) → not b ≡ true → (if b then o else o') ≡ Ended u → o' ≡ Ended u
else_ended true o o' u h e = absurd (true≢false (sym h))
else_ended false o o' u h e = e

mutual
  stmt_comes : (x : Stmt) (place : Position) (scope : Scope) (t u : State) → T (by_stmt plain_step x) → (denotation_of x).run place scope t ≡ Ended u
      → ComesAt (by_stmt rounds_step x) (by_stmt assignments_step x) scope.names scope.extents
  stmt_comes (s.For' iter low rel high shape body) place scope t u plain e m rs a g f xs =
      let first = reading_ended (index_value low (place.node + 1) scope.names) t _ u e in
      let last = reading_ended (index_value high (place.node + 1 + nodes_of_ix low) scope.names) t _ u first.2 in
      let inner = from_map (λ rs. Loop iter low rel high ∷ rs) (joined_rounds body) m rs g in
      let low_is : whole low scope.names ≡ first.0 = is_whole low scope.names _ first.0 first.1 in
      let high_is : whole high scope.names ≡ last.0 = is_whole high scope.names _ last.0 last.1 in
      subst (λ rs. Comes rs a scope.names xs scope.extents) (sym inner.2)
      (comes_loop iter low rel high inner.0 a scope.names scope.extents xs (read_at low scope.names _ first.0 first.1) (read_at high scope.names _ last.0 last.1) (λ x l h ys.
      let turn = turns_ended (turns_of rel first.0 last.0) place.node first.0 _ t u last.2 x
      (to_turn rel first.0 last.0 x (ap (λ z. int_le z x) (sym low_is) ∙ l) (ap (goes_on rel x) (sym high_is) ∙ h)) in
      row_comes body (inside place (1 + nodes_of_ix low + nodes_of_ix high)) (with_iterator scope x) turn.0 turn.1 plain turn.2 m inner.0 a inner.1 f ys))
  stmt_comes (s.If' cond shape body shape' other) place scope t u plain e m rs a g f xs =
      let both = both_parts (all_true (by_each plain_step body)) (all_true (by_each plain_step other)) plain in
      let read = reading_ended (condition cond (place.node + 1) scope.names) t _ u e in
      let there : IsReadCond cond scope.names = read_cond_at cond scope.names _ read.0 read.1 in
      let b : read.0 ≡ is_true_at cond scope.names = sym (condition_is_true cond scope.names _ read.0 read.1) in
      from_both (map (λ rs. Test cond ∷ rs) (joined_rounds body)) (map (λ rs. Test (denied cond) ∷ rs) (joined_rounds other)) (joined_assignments body) (joined_assignments other) scope.names scope.extents
      (length_map (λ rs. Test cond ∷ rs) (joined_rounds body) ∙ row_as_many body)
      (under_test cond (joined_rounds body) (joined_assignments body) scope.names scope.extents there (λ h.
      row_comes body (inside place (1 + nodes_of_cond cond)) scope t u both.0 (if_ended read.0 _ _ u (b ∙ h) read.2)))
      (under_test (denied cond) (joined_rounds other) (joined_assignments other) scope.names scope.extents (denied_is_read cond scope.names there) (λ h.
      row_comes other (past_all (by_each stmt_step body) (inside place (1 + nodes_of_cond cond))) scope t u both.1 (else_ended read.0 _ _ u (ap not b ∙ sym (denial cond scope.names) ∙ h) read.2))) m rs a g f xs
  stmt_comes (s.Assign op array subs value) place scope t u plain e zero rs a g f xs =
      let done = reading_ended (assigned op array subs value place.node scope t.store _) (begun t) _ u e in
      subst (λ rs. Comes rs a scope.names xs scope.extents) (same_Some [] rs g)
      (comes_here a scope.names scope.extents xs
      (subst (λ a. IsDone a scope.names scope.extents) (same_Some _ a f) (record { node = place.node; scope = scope; store = t.store; here = _; stored = done.0; its_names = refl; its_extents = refl; is_done = done.1 })))
  stmt_comes (s.Assign op array subs value) place scope t u plain e (suc m) rs a g f xs = absurd (none-some rs g)
  stmt_comes (s.Block' [] shape body) place scope t u plain e m rs a g f xs = row_comes body _ scope t u plain e m rs a g f xs
  stmt_comes (s.Block' (l ∷ ls) shape body) place scope t u plain e m rs a g f xs = absurd plain

  row_comes : {n : _} (body : Row_of-Stmt n) (place : Position) (scope : Scope) (t u : State) → T (all_true (by_each plain_step body)) → in_order (by_each stmt_step body) place scope t ≡ Ended u
      → ComesAt (flat_map (λ a. a) (by_each rounds_step body)) (flat_map (λ a. a) (by_each assignments_step body)) scope.names scope.extents
  row_comes end_of-Stmt place scope t u plain e = λ m rs a g f xs. absurd (none-some rs g)
  row_comes (more_of-Stmt x rest) place scope t u plain e =
      let both = both_parts (by_stmt plain_step x) (all_true (by_each plain_step rest)) plain in
      let first = then_ended ((denotation_of x).run place scope t) _ u e in
      from_both (by_stmt rounds_step x) (joined_rounds rest) (by_stmt assignments_step x) (joined_assignments rest) scope.names scope.extents (as_many x)
      (stmt_comes x place scope t first.0 both.0 first.1)
      (row_comes rest (past (denotation_of x) place) scope first.0 u both.1 first.2)

list_comes : (body : List Stmt) (place : Position) (scope : Scope) (t u : State) → T (all_true (map (by_stmt plain_step) body)) → in_order (map denotation_of body) place scope t ≡ Ended u
    → ComesAt (flat_map (by_stmt rounds_step) body) (flat_map (by_stmt assignments_step) body) scope.names scope.extents
list_comes body place scope t u plain e =
    subst (λ rss. ComesAt rss (flat_map (by_stmt assignments_step) body) scope.names scope.extents) (sym (flat_unrolled rounds_step body))
    (subst (λ as'. ComesAt (joined_rounds (row_of body)) as' scope.names scope.extents) (sym (flat_unrolled assignments_step body))
    (row_comes (row_of body) place scope t u (subst (λ bs. T (all_true bs)) (unrolled plain_step body) plain) (subst (λ ps. in_order ps place scope t ≡ Ended u) (unrolled stmt_step body) e)))

-- the extents of the arrays of a run that ends
pub record HasExtents (program : Program) (p : List ℤ) (extents : List (List ℤ)) : Type 0 where
  pub given : List (List ℤ)
  pub own : List (List ℤ)
  pub of_params : all_extents 0 (arrays_of program.params) 0 p ≡ Ok given
  pub of_temps : all_extents (length (arrays_of program.params)) program.temps (nodes_of_decls (arrays_of program.params) + sum_by nodes_of_compare program.context) p ≡ Ok own
  pub together : given ++ own ≡ extents

pub source_comes : (program : Program) (p : List ℤ) (store : Store) (u : State) → T (has_no_locals program) → meaning program p store ≡ Ended u
    → (extents : List (List ℤ)) × HasExtents program p extents
    × ((k : ℕ) (rs : List Round) (a : Assignment) → slice_get (rounds program) k ≡ Some rs → slice_get (assignments program) k ≡ Some a → (xs : List ℤ) → Comes rs a p xs extents)
source_comes program p store u plain e =
    let start : State = record { store = store; written = []; steps = 0 } in
    let given = reading_ended (all_extents 0 (arrays_of program.params) 0 p) start _ u e in
    let own = reading_ended (all_extents (length (arrays_of program.params)) program.temps _ p) start _ u given.2 in (
      given.0 ++ own.0,
      record { given = given.0; own = own.0; of_params = given.1; of_temps = own.1; together = refl },
      list_comes program.body _ (record { names = p; iterators = []; extents = given.0 ++ own.0 }) start u plain own.2,
    )
