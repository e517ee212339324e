-- Lists that are written one behind the other.
use Rattle.std.proofs.Common.{◌≡◌, ◌+◌, ◌-◌, ◌<◌, ◌≤◌, length, get_or, take, drop, arith, ℕ, zero, suc, Bool, true, false, List, [], ◌∷◌, ◌++◌, codes, refl, sym, ap, ◌∙◌, append_assoc}
use Rattle.std.specs.List.{flat_map}
use Rattle.std.proofs.lemmas.List.{append-nil, take_all, take_more}
use Rattle.std.proofs.lemmas.List.Concat.{flat_map-append}
use Rattle.affc_ast.specs.declared.tree.Ix.{Ix}
use Rattle.affc_ast.specs.declared.tree.Compare.{Compare}
use Rattle.affc_ast.specs.declared.tree.Local.{Local}
use Rattle.affc_ast.specs.declared.tree.Rel.{Rel}
use Rattle.affc_grammar.specs.Grammar.{Name, bound_mark, DimsText, no_dims, and_dim, AllText, prim, and_prim, LocalsText, no_locals, StmtsText, no_stmts, and_stmt, StmtText}
use Rattle.affc_grammar.specs.Printed.{Names, is_less, ix_text, and_dims, dims_text, test_text, and_tests, and_number, local_text, locals_text, stmts_text}
use Rattle.affc_cprint.specs.Adds.{Adds}
use Rattle.affc_cprint.proofs.Writes.{◌next◌}
use Rattle.affc_cprint.specs.Layout.{◌then◌, ix_layout, dims_layout, all_layout, prim_layout, indent, locals_layout, stmts_layout}
use Rattle.affc_cprint.specs.Statements.{head_layout, dim_added, test_added, tests_added, local_added, locals_added, with_locals, stmt_added, stmts_added}

-- ---- Subscripts and extents

dims_from : (prelude : Bool) (names : Names) (ds : DimsText prelude) (es : List Ix)
    → dims_layout (and_dims prelude names ds es) ≡ dims_layout ds ++ flat_map (dim_added prelude names) es
dims_from prelude names ds [] = sym (append-nil (dims_layout ds))
dims_from prelude names ds (e ∷ es) =
    dims_from prelude names (and_dim ds (ix_text prelude names e)) es
    ∙ append_assoc (dims_layout ds) (dim_added prelude names e) (flat_map (dim_added prelude names) es)

pub dims_are : (prelude : Bool) (names : Names) (es : List Ix) → dims_layout (dims_text prelude names es) ≡ flat_map (dim_added prelude names) es
dims_are prelude names es = dims_from prelude names no_dims es

-- ---- Conditions of a `context` line

tests_from : (names : Names) (a : AllText true false) (cs : List Compare)
    → all_layout (and_tests names a cs) ≡ all_layout a ++ flat_map (test_added names) cs
tests_from names a [] = sym (append-nil (all_layout a))
tests_from names a (c ∷ cs) =
    tests_from names (and_prim a (test_text names c)) cs
    ∙ append_assoc (all_layout a) (test_added names c) (flat_map (test_added names) cs)

pub tests_are : (names : Names) (c : Compare) (cs : List Compare)
    → tests_added names (c ∷ cs) ≡ prim_layout (test_text names c) ++ flat_map (test_added names) cs
tests_are names c cs = tests_from names (prim (test_text names c)) cs

-- ---- Statements

stmts_from : {prelude : Bool} (level : ℕ) (names : Names) (ss : StmtsText prelude) (fs : List (Names → StmtText prelude))
    → stmts_layout level (stmts_text names ss fs) ≡ stmts_layout level ss ++ stmts_added level names fs
stmts_from level names ss [] = sym (append-nil (stmts_layout level ss))
stmts_from level names ss (f ∷ fs) =
    stmts_from level names (and_stmt ss (f names)) fs
    ∙ append_assoc (stmts_layout level ss) (stmt_added level names f) (stmts_added level names fs)

pub stmts_are : {prelude : Bool} (level : ℕ) (names : Names) (fs : List (Names → StmtText prelude))
    → stmts_layout level (stmts_text names no_stmts fs) ≡ stmts_added level names fs
stmts_are level names fs = stmts_from level names no_stmts fs

-- ---- Locals

local_from : (prelude : Bool) (level : ℕ) (names : Names) (ls : LocalsText prelude) (l : Local)
    → locals_layout level (local_text prelude names ls l) ≡ locals_layout level ls ++ local_added prelude level names l
local_from true level names ls l = refl
local_from false level names ls l = sym (append-nil (locals_layout level ls))

locals_from : (prelude : Bool) (level : ℕ) (names : Names) (ls : LocalsText prelude) (xs : List Local)
    → locals_layout level (locals_text prelude names ls xs).0 ≡ locals_layout level ls ++ locals_added prelude level names xs
locals_from prelude level names ls [] = sym (append-nil (locals_layout level ls))
locals_from prelude level names ls (l ∷ xs) =
    locals_from prelude level (and_number names l.name) (local_text prelude names ls l) xs
    ∙ ap (λ t. t ++ locals_added prelude level (and_number names l.name) xs) (local_from prelude level names ls l)
    ∙ append_assoc (locals_layout level ls) (local_added prelude level names l) (locals_added prelude level (and_number names l.name) xs)

pub locals_are : (prelude : Bool) (level : ℕ) (names : Names) (xs : List Local)
    → locals_layout level (locals_text prelude names no_locals xs).0 ≡ locals_added prelude level names xs
locals_are prelude level names xs = locals_from prelude level names no_locals xs

locals_names_from : (prelude : Bool) (names : Names) (ls : LocalsText prelude) (xs : List Local) → (locals_text prelude names ls xs).1 ≡ with_locals names xs
locals_names_from prelude names ls [] = refl
locals_names_from prelude names ls (l ∷ xs) = locals_names_from prelude (and_number names l.name) (local_text prelude names ls l) xs

pub locals_names : (prelude : Bool) (names : Names) (xs : List Local) → (locals_text prelude names no_locals xs).1 ≡ with_locals names xs
locals_names prelude names xs = locals_names_from prelude names no_locals xs

pub first_and_rest : {A : Type 0} (xs : List A) (x : A) → 1 ≤ length xs → x ≡ get_or xs 0 x → xs ≡ x ∷ take (length xs - 1) (drop 1 xs)
first_and_rest [] x h e = absurd (omega arith)
first_and_rest (y ∷ ys) x h e = let n : length ys ≤ length (y ∷ ys) - 1 = omega arith in (λ i. sym e i ∷ sym (take_all (length (y ∷ ys) - 1) ys n) i)

-- the first condition, and a loop over the others
pub tests_end : {o0 o1 o2 : List ℕ} (names : Names) (cs : List Compare) (x : Compare) (i : ℕ) → 1 ≤ length cs → x ≡ get_or cs 0 x → length (take (length cs - 1) (drop 1 cs)) ≤ i
    → Adds o0 o1 (prim_layout (test_text names x)) → Adds o1 o2 (flat_map (test_added names) (take i (take (length cs - 1) (drop 1 cs)))) → Adds o0 o2 (tests_added names cs)
tests_end {o0 = o0} names cs x i some first past before loop =
    let rest = take (length cs - 1) (drop 1 cs) in
    let whole : tests_added names cs ≡ prim_layout (test_text names x) ++ flat_map (test_added names) rest
    = ap (tests_added names) (first_and_rest cs x some first) ∙ tests_are names x rest in
    record { is = (before next loop).is ∙ ap (λ l. o0 ++ (prim_layout (test_text names x) ++ flat_map (test_added names) l)) (take_all i rest past) ∙ ap (λ t. o0 ++ t) (sym whole) }

-- one more condition behind those before it
pub tests_more : {o0 o1 o2 o3 : List ℕ} (names : Names) (cs : List Compare) (x : Compare) (i : ℕ) → i < length cs → x ≡ get_or cs i x
    → Adds o0 o1 (flat_map (test_added names) (take i cs)) → Adds o1 o2 (codes " && ") → Adds o2 o3 (prim_layout (test_text names x)) → Adds o0 o3 (flat_map (test_added names) (take (i + 1) cs))
tests_more {o0 = o0} names cs x i lt is before between one =
    let more : flat_map (test_added names) (take (i + 1) cs) ≡ flat_map (test_added names) (take i cs) ++ test_added names x =
    ap (flat_map (test_added names)) (take_more cs i x lt ∙ ap (λ z. take i cs ++ z ∷ []) (sym is)) ∙ flat_map-append (test_added names) (take i cs) (x ∷ [])
    ∙ ap (λ t. flat_map (test_added names) (take i cs) ++ t) (append-nil (test_added names x)) in
    record { is = (before next (between next one)).is ∙ ap (λ t. o0 ++ t) (sym more) }

regrouped : (a b c d e f g h i j k l m : List ℕ) → a then b then c then d then e then f then g then h then i then j then k then l then m
    ≡ (a ++ (b ++ (c ++ (d ++ (e ++ (f ++ ((g ++ (h ++ i)) ++ (j ++ (k ++ l))))))))) ++ m
regrouped a b c d e f g h i j k l m = simp append_assoc

-- a loop's head, in the pieces in which it is written
pub head_pieces : (prelude : Bool) (names : Names) (i : Name) (low : Ix) (rel : Rel) (high : Ix) → head_layout prelude names i low rel high
    ≡ (codes "for (int64_t " ++ (i ++ (codes " = " ++ (ix_layout (ix_text prelude names low) ++ (codes "; " ++ (i ++ ((codes " " ++ (bound_mark (is_less rel) ++ codes " ")) ++ (ix_layout (ix_text prelude names high) ++ (codes "; " ++ i))))))))) ++ codes "++) {\n"
head_pieces prelude names i low rel high =
    regrouped (codes "for (int64_t ") i (codes " = ") (ix_layout (ix_text prelude names low)) (codes "; ") i (codes " ") (bound_mark (is_less rel)) (codes " ") (ix_layout (ix_text prelude names high)) (codes "; ") i (codes "++) {\n")

-- ---- Levels

pub indent_more : (level : ℕ) → (level ≡ 0 → ⊥) → indent level ≡ codes "  " ++ indent (level - 1)
indent_more zero h = absurd (h refl)
indent_more (suc level) h = let e : level ≡ suc level - 1 = omega arith in ap (λ n. codes "  " ++ indent n) e
