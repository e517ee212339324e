-- The arrays of each access, statement by statement.
use Rattle.std.proofs.Common.{rules, arith, Vec, ◌≡◌, ℕ, ◌+◌, ◌<◌, ◌≤◌, List, [], ◌++◌, length, map, get_or, take, option_map, refl, sym, ap, subst, ◌∙◌, append_assoc}
use Rattle.std.specs.declared.alloc.Global.{Global}
use Rattle.std.specs.List.{flat_map}
use Rattle.std.proofs.lemmas.List.{map-append, length-map}
use Rattle.std.proofs.lemmas.Option.{slice_get_read, slice_get-map, get_or_from_slice_get}
use Rattle.affc_ast.specs.declared.tree.Cond.{Cond}
use Rattle.affc_ast.specs.declared.tree.Ix.{Ix}
use Rattle.affc_ast.specs.declared.tree.Local.{Local}
use Rattle.affc_ast.specs.declared.tree.Rel.{Rel}
use Rattle.affc_ast.specs.declared.tree.Stmt.{Stmt, For, If, Block}
use Rattle.affc_ast.specs.declared.tree.Op.{Op}
use Rattle.affc_ast.specs.declared.tree.Val.{Val, Bin, out-Val, map-Val, the_lemmas as val_lemmas}
use Rattle.affc_ast.specs.declared.tree.Val.TheOpen as layer_v
use Rattle.affc_ast.proofs.Outs.{by_val_out}
use Rattle.affc_ast.proofs.Steps.{for_here, if_here, block_here}
use Rattle.affc_ast.specs.Recursion.{by_stmt}
use Rattle.affc_ast.specs.declared.tree.Program.{Program}
use Rattle.affc_ast.specs.Trace.{assignments_step, assignments}
use Rattle.affc_interp.specs.Arrays.{values_in}
use Rattle.affc_lines.specs.Stuck.{loaded_step, arrays_loaded, arrays_accessed, array_of}
use Rattle.affc_lines.proofs.Layers.{of_body, flat_map-further, get_past}

-- those of the assignments in a statement
abbrev pub accessed_in : Stmt → List (List ℕ)
accessed_in s = map arrays_accessed (by_stmt assignments_step s)

-- those of the assignments in statements one after the other
abbrev pub accessed_among : List Stmt → List (List ℕ)
accessed_among stmts = map arrays_accessed (flat_map (by_stmt assignments_step) stmts)

-- one statement more
pub further : (items : List Stmt) (i : ℕ) (x : Stmt) (start each next : List (List ℕ)) → i < length items → x ≡ get_or items i x
    → each ≡ start ++ accessed_among (take i items) → next ≡ each ++ accessed_in x
    → next ≡ start ++ accessed_among (take (i + 1) items)
further items i x start each next below item so_far is =
    is ∙ ap (λ l. l ++ accessed_in x) so_far ∙ append_assoc start (accessed_among (take i items)) (accessed_in x)
    ∙ ap (λ l. start ++ l) (sym (map-append arrays_accessed (flat_map (by_stmt assignments_step) (take i items)) (by_stmt assignments_step x))
    ∙ ap (map arrays_accessed) (sym (flat_map-further (by_stmt assignments_step) items i x below item)))

-- ---- Statements with a body

-- what stands in the statement is what stands in its body
pub in_for : (s : Stmt) (iter : List ℕ) (low : Ix) (rel : Rel) (high : Ix) (body slice : List Stmt) → s ≡ For iter low rel high body → slice ≡ body → accessed_among slice ≡ accessed_in s
in_for s iter low rel high body slice e b =
    ap (map arrays_accessed) (sym (ap (by_stmt assignments_step) e ∙ for_here assignments_step iter low rel high body ∙ of_body assignments_step body slice b))

-- and in the other body behind it
pub in_if : (s : Stmt) (cond : Cond) (body slice other slice' : List Stmt) → s ≡ If cond body other → slice ≡ body → slice' ≡ other → accessed_among slice ++ accessed_among slice' ≡ accessed_in s
in_if s cond body slice other slice' e b o =
    sym (map-append arrays_accessed (flat_map (by_stmt assignments_step) slice) (flat_map (by_stmt assignments_step) slice'))
    ∙ ap (map arrays_accessed) (sym (ap (by_stmt assignments_step) e ∙ if_here assignments_step cond body other ∙ (λ i. of_body assignments_step body slice b i ++ of_body assignments_step other slice' o i)))

pub in_block : (s : Stmt) (locals : List Local) (body slice : List Stmt) → s ≡ Block locals body → slice ≡ body → accessed_among slice ≡ accessed_in s
in_block s locals body slice e b =
    ap (map arrays_accessed) (sym (ap (by_stmt assignments_step) e ∙ block_here assignments_step locals body ∙ of_body assignments_step body slice b))

-- one body
pub one_body : (s : Stmt) (slice : List Stmt) (old new : List (List ℕ)) → accessed_among slice ≡ accessed_in s → new ≡ old ++ accessed_among slice → new ≡ old ++ accessed_in s
one_body s slice old new same is = is ∙ ap (λ l. old ++ l) same

-- both bodies, the one behind the other
pub both_bodies : (s : Stmt) (cond : Cond) (body slice other slice' : List Stmt) (old mid new : List (List ℕ)) → s ≡ If cond body other → slice ≡ body → slice' ≡ other
    → mid ≡ old ++ accessed_among slice → new ≡ mid ++ accessed_among slice' → new ≡ old ++ accessed_in s
both_bodies s cond body slice other slice' old mid new e b o first second =
    second ∙ ap (λ l. l ++ accessed_among slice') first ∙ append_assoc old (accessed_among slice) (accessed_among slice') ∙ ap (λ l. old ++ l) (in_if s cond body slice other slice' e b o)

-- ---- Values with two sides

bin_row : (op : Op) (a b : Val) → map-Val Val (List ℕ) arrays_loaded (out-Val (Bin op a b)) ≡ layer_v.Bin op (arrays_loaded a) (arrays_loaded b)
bin_row op a b = first_of (simp val_lemmas, grind (arith, val_lemmas), search (rules, val_lemmas))

-- the loads of the left side and then those of the right
pub both_loaded : (v : Val) (op : Op) (a b a' b' : Val) (old mid new : List ℕ) → v ≡ Bin op a b → a' ≡ a → b' ≡ b
    → mid ≡ old ++ arrays_loaded a' → new ≡ mid ++ arrays_loaded b' → new ≡ old ++ arrays_loaded v
both_loaded v op a b a' b' old mid new is left right first second =
    second ∙ ap (λ l. l ++ arrays_loaded b') first ∙ append_assoc old (arrays_loaded a') (arrays_loaded b')
    ∙ ap (λ x. old ++ (arrays_loaded x ++ arrays_loaded b')) left ∙ ap (λ x. old ++ (arrays_loaded a ++ arrays_loaded x)) right
    ∙ ap (λ l. old ++ l) (sym (ap arrays_loaded is ∙ by_val_out loaded_step (Bin op a b) ∙ ap loaded_step (bin_row op a b)))

-- ---- The array of one access

-- those of all statements
pub all_accessed : (program : Program) (body : List Stmt) (none each slice : List (Vec ℕ Global)) → none ≡ [] → body ≡ program.body
    → values_in each ≡ values_in none ++ accessed_among body → slice ≡ each → values_in slice ≡ map arrays_accessed (assignments program)
all_accessed program body none each slice empty is all same =
    ap values_in same ∙ all ∙ ap (λ l. values_in l ++ accessed_among body) empty ∙ ap accessed_among is

of_list : (program : Program) (statement access : ℕ) (list : List ℕ) (slice : List (Vec ℕ Global)) → values_in slice ≡ map arrays_accessed (assignments program)
    → get_or (values_in slice) statement [] ≡ list → get_or list access 0 ≡ array_of program statement access
of_list program statement access list slice is at =
    ap (λ l. get_or l access 0) (sym at) ∙ ap (λ l. get_or (get_or l statement []) access 0) is

-- there is no such statement
pub no_statement : (program : Program) (statement access : ℕ) (slice : List (Vec ℕ Global)) → values_in slice ≡ map arrays_accessed (assignments program)
    → length slice ≤ statement → 0 ≡ array_of program statement access
no_statement program statement access slice is past =
    of_list program statement access [] slice is (get_past (values_in slice) statement [] (subst (λ n. n ≤ statement) (sym (length-map slice (λ (v : Vec ℕ Global). v.items))) past))

-- what stands under the statement's number
statement_at : (statement : ℕ) (slice : List (Vec ℕ Global)) (v : Vec ℕ Global) → statement < length slice → v ≡ get_or slice statement v → get_or (values_in slice) statement [] ≡ v.items
statement_at statement slice v below is =
    get_or_from_slice_get (values_in slice) statement v.items []
    (slice_get-map (λ (w : Vec ℕ Global). w.items) slice statement ∙ ap (option_map (λ (w : Vec ℕ Global). w.items)) (slice_get_read slice (length slice) statement v refl below is))

-- there is no such access
pub no_access : (program : Program) (statement access : ℕ) (slice : List (Vec ℕ Global)) (v : Vec ℕ Global) (list : List ℕ) → values_in slice ≡ map arrays_accessed (assignments program)
    → statement < length slice → v ≡ get_or slice statement v → list ≡ v.items → length list ≤ access → 0 ≡ array_of program statement access
no_access program statement access slice v list is below at same past =
    sym (get_past list access 0 past) ∙ of_list program statement access list slice is (statement_at statement slice v below at ∙ sym same)

-- there is one
pub access_at : (program : Program) (statement access array : ℕ) (slice : List (Vec ℕ Global)) (v : Vec ℕ Global) (list : List ℕ) → values_in slice ≡ map arrays_accessed (assignments program)
    → statement < length slice → v ≡ get_or slice statement v → list ≡ v.items → array ≡ get_or list access 0 → array ≡ array_of program statement access
access_at program statement access array slice v list is below at same found =
    found ∙ of_list program statement access list slice is (statement_at statement slice v below at ∙ sym same)
