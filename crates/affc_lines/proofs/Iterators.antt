-- The iterators of the loops round each assignment, statement by statement.
use Rattle.std.proofs.Common.{arith, ◌≡◌, ◌≢◌, ℕ, zero, suc, ◌+◌, ◌-◌, ◌<◌, ◌≤◌, List, [], ◌∷◌, ◌++◌, length, map, get_or, take, refl, sym, ap, subst, ◌∙◌, length-append}
use Rattle.std.specs.List.{flat_map}
use Rattle.std.proofs.lemmas.List.{get_or-map, get_or-append-add, get_or_append_left, length-map, take_all}
use Rattle.std.proofs.lemmas.List.Concat.{get_or-flat_map}
use Rattle.std.proofs.lemmas.List.Folds.{length-flat_map-take}
use Rattle.affc_ast.specs.declared.tree.Cond.{Cond}
use Rattle.affc_ast.specs.declared.tree.Ix.{Ix}
use Rattle.affc_ast.specs.declared.tree.Local.{Local}
use Rattle.affc_ast.specs.declared.tree.Program.{Program}
use Rattle.affc_ast.specs.declared.tree.Rel.{Rel}
use Rattle.affc_ast.specs.declared.tree.Stmt.{Stmt, For, If, Block}
use Rattle.affc_ast.specs.Recursion.{by_stmt}
use Rattle.affc_ast.specs.Denials.{denied}
use Rattle.affc_ast.proofs.Steps.{for_here, if_here, block_here}
use Rattle.affc_domain.specs.Rounds.{Round, Loop, Test, rounds_step, rounds}
use Rattle.affc_lines.specs.Meaning.{iterator_of, iterator_name}
use Rattle.affc_lines.proofs.Layers.{of_body, flat_map-further, get_past}

-- what stands round each assignment of a statement
abbrev pub rounds_in : Stmt → List (List Round)
rounds_in s = by_stmt rounds_step s

-- the name is that of the loop of this number round the assignment of this number among these
abbrev pub IsName : List (List Round) → (left loop : ℕ) → (name : List ℕ) → Type 0
IsName each left loop name = (left < length each) × (name ≡ iterator_of (get_or each left []) loop)

-- ---- Statements with a body

in_for : (s : Stmt) (iter : List ℕ) (low : Ix) (rel : Rel) (high : Ix) (body slice : List Stmt) → s ≡ For iter low rel high body → slice ≡ body
    → rounds_in s ≡ map (λ rs. Loop iter low rel high ∷ rs) (flat_map rounds_in slice)
in_for s iter low rel high body slice e b =
    ap rounds_in e ∙ for_here rounds_step iter low rel high body ∙ ap (map (λ rs. Loop iter low rel high ∷ rs)) (of_body rounds_step body slice b)

-- what stands round the assignments of both bodies of a condition
abbrev under : Cond → List (List Round) → List (List Round)
under cond each = map (λ rs. Test cond ∷ rs) each

in_if : (s : Stmt) (cond : Cond) (body slice other slice' : List Stmt) → s ≡ If cond body other → slice ≡ body → slice' ≡ other
    → rounds_in s ≡ under cond (flat_map rounds_in slice) ++ under (denied cond) (flat_map rounds_in slice')
in_if s cond body slice other slice' e b o =
    ap rounds_in e ∙ if_here rounds_step cond body other ∙ (λ i. under cond (of_body rounds_step body slice b i) ++ under (denied cond) (of_body rounds_step other slice' o i))

in_block : (s : Stmt) (locals : List Local) (body slice : List Stmt) → s ≡ Block locals body → slice ≡ body → rounds_in s ≡ flat_map rounds_in slice
in_block s locals body slice e b = ap rounds_in e ∙ block_here rounds_step locals body ∙ of_body rounds_step body slice b

-- ---- What is found in a body

module _ (r : Round) (each inside : List (List Round)) (is : each ≡ map (λ rs. r ∷ rs) inside) (left : ℕ) where
  -- nothing, and the number behind it
  pub behind : (rest : ℕ) → left ≡ length inside + rest → left ≡ length each + rest
  behind rest e = let same : length each ≡ length inside = ap length is ∙ length-map inside (λ rs. r ∷ rs) in omega arith

  pub within : left < length inside → left < length each
  within h = let same : length each ≡ length inside = ap length is ∙ length-map inside (λ rs. r ∷ rs) in omega arith

  pub round_at : left < length inside → get_or each left [] ≡ r ∷ get_or inside left []
  round_at h = ap (λ l. get_or l left []) is ∙ get_or-map (λ rs. r ∷ rs) inside left [] [] h

-- under a condition, and where it is false
module _ (s : Stmt) (cond : Cond) (body slice other slice' : List Stmt) (e : s ≡ If cond body other) (b : slice ≡ body) (o : slice' ≡ other) where
  abbrev first : List (List Round)
  first = flat_map rounds_in slice

  abbrev second : List (List Round)
  second = flat_map rounds_in slice'

  both : rounds_in s ≡ under cond first ++ under (denied cond) second
  both = in_if s cond body slice other slice' e b o

  first_long : length (under cond first) ≡ length first
  first_long = length-map first (λ rs. Test cond ∷ rs)

  both_long : length (rounds_in s) ≡ length first + length second
  both_long = ap length both ∙ length-append (under cond first) (under (denied cond) second) ∙ (λ i. first_long i + length-map second (λ rs. Test (denied cond) ∷ rs) i)

  pub tested : (left loop : ℕ) (name : List ℕ) → IsName (flat_map rounds_in slice) left loop name → IsName (rounds_in s) left loop name
  tested left loop name h =
      let l = h.0 in
      let n = both_long in
      let here : get_or (rounds_in s) left [] ≡ Test cond ∷ get_or first left [] =
      ap (λ each. get_or each left []) both ∙ get_or_append_left (under cond first) (under (denied cond) second) [] left (let k = first_long in omega (arith, l, k)) ∙ get_or-map (λ rs. Test cond ∷ rs) first left [] [] l in
      (omega (arith, l, n), h.1 ∙ ap (λ rs. iterator_of rs loop) (sym here))

  pub denied_there : (left rest loop : ℕ) (name : List ℕ) → left ≡ length (flat_map rounds_in slice) + rest → IsName (flat_map rounds_in slice') rest loop name → IsName (rounds_in s) left loop name
  denied_there left rest loop name at h =
      let l = h.0 in
      let n = both_long in
      let there : get_or (rounds_in s) left [] ≡ Test (denied cond) ∷ get_or second rest [] =
      ap (λ each. get_or each left []) both ∙ ap (λ k. get_or (under cond first ++ under (denied cond) second) k []) (at ∙ ap (λ k. k + rest) (sym first_long))
      ∙ get_or-append-add (under cond first) (under (denied cond) second) rest [] ∙ get_or-map (λ rs. Test (denied cond) ∷ rs) second rest [] [] l in
      (omega (arith, l, n, at), h.1 ∙ ap (λ rs. iterator_of rs loop) (sym there))

  pub behind_both : (left rest next : ℕ) → left ≡ length (flat_map rounds_in slice) + rest → rest ≡ length (flat_map rounds_in slice') + next → left ≡ length (rounds_in s) + next
  behind_both left rest next at past = let n = both_long in omega (arith, n, at, past)

-- in a block
pub blocked : (s : Stmt) (locals : List Local) (body slice : List Stmt) (left loop : ℕ) (name : List ℕ) → s ≡ Block locals body → slice ≡ body
    → IsName (flat_map rounds_in slice) left loop name → IsName (rounds_in s) left loop name
blocked s locals body slice left loop name e b = subst (λ each. IsName each left loop name) (sym (in_block s locals body slice e b))

pub behind_block : (s : Stmt) (locals : List Local) (body slice : List Stmt) (left rest : ℕ) → s ≡ Block locals body → slice ≡ body
    → left ≡ length (flat_map rounds_in slice) + rest → left ≡ length (rounds_in s) + rest
behind_block s locals body slice left rest e b = subst (λ each. left ≡ length each + rest) (sym (in_block s locals body slice e b))

first_name : (iter : List ℕ) (low : Ix) (rel : Rel) (high : Ix) (rs : List Round) (loop : ℕ) → loop ≡ 0 → iter ≡ iterator_of (Loop iter low rel high ∷ rs) loop
first_name iter low rel high rs zero e = refl
first_name iter low rel high rs (suc n) e = absurd (omega arith)

later_name : (iter : List ℕ) (low : Ix) (rel : Rel) (high : Ix) (rs : List Round) (loop less : ℕ) → loop ≢ 0 → less ≡ loop - 1 → iterator_of rs less ≡ iterator_of (Loop iter low rel high ∷ rs) loop
later_name iter low rel high rs zero less e f = absurd (e refl)
later_name iter low rel high rs (suc n) less e f = let same : less ≡ n = omega arith in ap (iterator_of rs) same

module _ (s : Stmt) (iter : List ℕ) (low : Ix) (rel : Rel) (high : Ix) (body slice : List Stmt) (e : s ≡ For iter low rel high body) (b : slice ≡ body) (left loop : ℕ) where
  is : rounds_in s ≡ map (λ rs. Loop iter low rel high ∷ rs) (flat_map rounds_in slice)
  is = in_for s iter low rel high body slice e b

  at : left < length (flat_map rounds_in slice) → get_or (rounds_in s) left [] ≡ Loop iter low rel high ∷ get_or (flat_map rounds_in slice) left []
  at h = round_at (Loop iter low rel high) (rounds_in s) (flat_map rounds_in slice) is left h

  -- the loop itself
  pub outermost : (name : List ℕ) → left < length (flat_map rounds_in slice) → loop ≡ 0 → name ≡ iter → IsName (rounds_in s) left loop name
  outermost name h none same = (
    within (Loop iter low rel high) (rounds_in s) (flat_map rounds_in slice) is left h,
    same ∙ first_name iter low rel high (get_or (flat_map rounds_in slice) left []) loop none ∙ ap (λ rs. iterator_of rs loop) (sym (at h)),
  )

  -- a loop within it
  pub further_in : (name : List ℕ) (less : ℕ) → loop ≢ 0 → less ≡ loop - 1 → IsName (flat_map rounds_in slice) left less name → IsName (rounds_in s) left loop name
  further_in name less some is_less h = (
    within (Loop iter low rel high) (rounds_in s) (flat_map rounds_in slice) is left h.0,
    h.1 ∙ later_name iter low rel high (get_or (flat_map rounds_in slice) left []) loop less some is_less ∙ ap (λ rs. iterator_of rs loop) (sym (at h.0)),
  )

  pub behind_loop : (rest : ℕ) → left ≡ length (flat_map rounds_in slice) + rest → left ≡ length (rounds_in s) + rest
  behind_loop rest = behind (Loop iter low rel high) (rounds_in s) (flat_map rounds_in slice) is left rest

-- ---- Statements one after the other

pub one_more : (items : List Stmt) (i : ℕ) (x : Stmt) (left rest next : ℕ) → i < length items → x ≡ get_or items i x
    → left ≡ length (flat_map rounds_in (take i items)) + rest → rest ≡ length (rounds_in x) + next → left ≡ length (flat_map rounds_in (take (i + 1) items)) + next
one_more items i x left rest next below item so_far is =
    let grown : length (flat_map rounds_in (take (i + 1) items)) ≡ length (flat_map rounds_in (take i items)) + length (rounds_in x) =
    ap length (flat_map-further rounds_in items i x below item) ∙ length-append (flat_map rounds_in (take i items)) (rounds_in x) in
    omega arith

pub found_here : (items : List Stmt) (i : ℕ) (x : Stmt) (left rest loop : ℕ) (name : List ℕ) → i < length items → x ≡ get_or items i x
    → left ≡ length (flat_map rounds_in (take i items)) + rest → IsName (rounds_in x) rest loop name → IsName (flat_map rounds_in items) left loop name
found_here items i x left rest loop name below item so_far h =
    let same : rounds_in x ≡ rounds_in (get_or items i x) = ap rounds_in item in
    let there : rest < length (rounds_in (get_or items i x)) = subst (λ l. rest < length l) same h.0 in
    let whole : length (flat_map rounds_in (take i items)) + length (rounds_in (get_or items i x)) ≤ length (flat_map rounds_in items) = length-flat_map-take rounds_in items i x below in
    let at : get_or (flat_map rounds_in items) (length (flat_map rounds_in (take i items)) + rest) [] ≡ get_or (rounds_in (get_or items i x)) rest [] = get_or-flat_map rounds_in items i rest x [] below there in (
      omega arith,
      h.1 ∙ ap (λ l. iterator_of (get_or l rest []) loop) same ∙ ap (λ rs. iterator_of rs loop) (sym at ∙ ap (λ n. get_or (flat_map rounds_in items) n []) (sym so_far)),
    )

pub all_passed : (items : List Stmt) (i left rest : ℕ) → length items ≤ i → left ≡ length (flat_map rounds_in (take i items)) + rest → left ≡ length (flat_map rounds_in items) + rest
all_passed items i left rest past so_far = so_far ∙ ap (λ l. length (flat_map rounds_in l) + rest) (take_all i items past)

-- ---- All statements

pub none_there : (program : Program) (slice : List Stmt) (statement loop rest : ℕ) → slice ≡ program.body → statement ≡ length (flat_map rounds_in slice) + rest → [] ≡ iterator_name program statement loop
none_there program slice statement loop rest same e =
    let past : length (flat_map rounds_in slice) ≤ statement = omega arith in
    let nothing : get_or (rounds program) statement [] ≡ [] = ap (λ l. get_or (flat_map rounds_in l) statement []) (sym same) ∙ get_past (flat_map rounds_in slice) statement [] past in
    sym (ap (λ rs. iterator_of rs loop) nothing ∙ get_past {X = List ℕ} [] loop [] (omega arith))
