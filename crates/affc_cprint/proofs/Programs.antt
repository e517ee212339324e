-- A printed program in the pieces in which it is written.
use Rattle.std.proofs.Common.{ℤ, ◌≡◌, ◌<◌, ◌≤◌, ◌+◌, ℕ, zero, suc, Bool, true, List, [], ◌∷◌, ◌++◌, map, drop, length, get_or, codes, refl, sym, ap, ◌∙◌, append_assoc, arith}
use Rattle.std.specs.List.{flat_map}
use Rattle.std.proofs.lemmas.List.{append-nil}
use Rattle.affc_ast.specs.declared.tree.Compare.{Compare}
use Rattle.affc_ast.specs.declared.tree.Decl.{Decl}
use Rattle.affc_ast.specs.declared.tree.Ix.{Ix}
use Rattle.affc_ast.specs.declared.tree.Local.{Local}
use Rattle.affc_ast.specs.declared.tree.Param.{Param}
use Rattle.affc_ast.specs.declared.tree.Param.TheVariants.{Number, Array}
use Rattle.affc_ast.specs.declared.tree.Program.{Program}
use Rattle.affc_grammar.specs.Grammar.{Name, ParamsText, param, and_param, DeclsText, no_decls, and_decl, one_array, PragmasText, no_pragmas, and_range, line_feed, no_stmts}
use Rattle.affc_grammar.specs.Printed.{Names, no_names, and_param_name, and_array_name, and_number, param_text, and_params, params_text, dims_text, decls_text, int_text, ranges_text, context_text, function_text, stmts_text, stmt_text, array_text, ix_text, is_input}
use Rattle.affc_cprint.specs.Adds.{Adds}
use Rattle.affc_cprint.specs.Layout.{◌then◌, params_layout, param_layout, decls_layout, pragmas_layout, int_layout, prelude_layout, function_layout, pragmas_of, printed_text, stmts_layout, const_layout, ix_layout}
use Rattle.affc_cprint.specs.Statements.{dim_added, local_added, locals_added, with_locals, line_added, tests_added}
use Rattle.affc_cprint.specs.Programs.{range_added, context_added, params_added, with_param_names, decls_added, with_array_names, function_head, function_added}
use Rattle.affc_cprint.proofs.Chains.{dims_are}
use Rattle.affc_cprint.proofs.Arms.{lines_are}

-- ---- Parameters

params_from : (prelude : Bool) (names : Names) (ps : ParamsText prelude) (qs : List Param)
    → params_layout (and_params prelude names ps qs).0 ≡ params_layout ps ++ params_added prelude names qs
params_from prelude names ps [] = sym (append-nil (params_layout ps))
params_from prelude names ps (q ∷ qs) =
    params_from prelude (and_param_name names q) (and_param ps (param_text prelude names q)) qs
    ∙ append_assoc (params_layout ps) (codes ", " then param_layout (param_text prelude names q)) (params_added prelude (and_param_name names q) qs)
    ∙ ap (λ t. params_layout ps ++ t) (append_assoc (codes ", ") (param_layout (param_text prelude names q)) (params_added prelude (and_param_name names q) qs))

names_from : (prelude : Bool) (names : Names) (ps : ParamsText prelude) (qs : List Param) → (and_params prelude names ps qs).1 ≡ with_param_names names qs
names_from prelude names ps [] = refl
names_from prelude names ps (q ∷ qs) = names_from prelude (and_param_name names q) (and_param ps (param_text prelude names q)) qs

pub params_are : (prelude : Bool) (q : Param) (qs : List Param)
    → params_layout (params_text prelude (q ∷ qs)).0 ≡ param_layout (param_text prelude no_names q) ++ params_added prelude (and_param_name no_names q) qs
params_are prelude q qs = params_from prelude (and_param_name no_names q) (param (param_text prelude no_names q)) qs

pub param_names_are : (prelude : Bool) (qs : List Param) → (params_text prelude qs).1 ≡ with_param_names no_names qs
param_names_are prelude [] = refl
param_names_are prelude (q ∷ qs) = names_from prelude (and_param_name no_names q) (param (param_text prelude no_names q)) qs

-- ---- Declarations

decls_from : (prelude : Bool) (names : Names) (ds : DeclsText prelude) (more : List Decl)
    → decls_layout (decls_text prelude names ds more).0 ≡ decls_layout ds ++ decls_added prelude names more
decls_from prelude names ds [] = sym (append-nil (decls_layout ds))
decls_from prelude names ds (d ∷ more) =
    decls_from prelude (and_array_name names d.name) (and_decl ds (one_array d.name (dims_text prelude names d.extents))) more
    ∙ ap (λ t. (decls_layout ds then codes "  uint64_t " then (d.name then t) then codes ";\n") ++ decls_added prelude (and_array_name names d.name) more) (dims_are prelude names d.extents)
    ∙ grouped (decls_layout ds) (codes "  uint64_t ") d.name (flat_map (dim_added prelude names) d.extents) (codes ";\n") (decls_added prelude (and_array_name names d.name) more)
  where
    grouped : (a b c d e f : List ℕ) → (a then b then (c then d) then e) ++ f ≡ a then b then c then d then e then f
    grouped a b c d e f = simp append_assoc

pub decl_names_from : (prelude : Bool) (names : Names) (ds : DeclsText prelude) (more : List Decl) → (decls_text prelude names ds more).1 ≡ with_array_names names more
decl_names_from prelude names ds [] = refl
decl_names_from prelude names ds (d ∷ more) = decl_names_from prelude (and_array_name names d.name) (and_decl ds (one_array d.name (dims_text prelude names d.extents))) more

-- ---- Lines before the function

ranges_from : (ps : PragmasText) (qs : List Param) → pragmas_layout (ranges_text ps qs) ≡ pragmas_layout ps ++ flat_map range_added qs
ranges_from ps [] = sym (append-nil (pragmas_layout ps))
ranges_from ps (Number w low high ∷ qs) =
    ranges_from (and_range ps w (int_text low) (int_text high) line_feed) qs ∙ append_assoc (pragmas_layout ps) (range_added (Number w low high)) (flat_map range_added qs)
ranges_from ps (Array d ∷ qs) = ranges_from ps qs

context_from : (names : Names) (ps : PragmasText) (cs : List Compare) → pragmas_layout (context_text names ps cs) ≡ pragmas_layout ps ++ context_added names cs
context_from names ps [] = sym (append-nil (pragmas_layout ps))
context_from names ps (c ∷ cs) = refl

pragmas_are : (p : Program) → pragmas_layout (pragmas_of p) ≡ flat_map range_added p.params ++ context_added (with_param_names no_names p.params) p.context
pragmas_are p =
    context_from (params_text true p.params).1 (ranges_text no_pragmas p.params) p.context
    ∙ ap (λ t. t ++ context_added (params_text true p.params).1 p.context) (ranges_from no_pragmas p.params)
    ∙ ap (λ names. flat_map range_added p.params ++ context_added names p.context) (param_names_are true p.params)

-- ---- The whole

function_is : (prelude : Bool) (p : Program) → function_layout (function_text prelude p) ≡ function_added prelude p
function_is prelude p =
    let ps = params_text prelude p.params in
    let ds = decls_text prelude ps.1 no_decls p.temps in
    let outside : ps.1 ≡ with_param_names no_names p.params = param_names_are prelude p.params in
    let rest : Names → Names → List ℕ = λ n m. decls_added prelude n p.temps then flat_map (line_added prelude 1 m) p.body then codes "}\n" in
    grouped (codes "void ") p.name (codes "(") (params_layout ps.0) (codes ") {\n") (decls_layout ds.0 then stmts_layout 1 (stmts_text ds.1 no_stmts (map (stmt_text prelude) p.body)) then codes "}\n")
    ∙ ap (λ t. function_head prelude p.name p.params ++ (t then stmts_layout 1 (stmts_text ds.1 no_stmts (map (stmt_text prelude) p.body)) then codes "}\n")) (decls_from prelude ps.1 no_decls p.temps)
    ∙ ap (λ t. function_head prelude p.name p.params ++ (decls_added prelude ps.1 p.temps then t then codes "}\n")) (lines_are prelude 1 ds.1 p.body)
    ∙ ap (λ n. function_head prelude p.name p.params ++ rest ps.1 n) (decl_names_from prelude ps.1 no_decls p.temps)
    ∙ ap (λ n. function_head prelude p.name p.params ++ rest n (with_array_names n p.temps)) outside
  where
    grouped : (a b c d e f : List ℕ) → a then b then c then d then e then f ≡ (a then b then c then d then e) ++ f
    grouped a b c d e f = simp append_assoc

pub printed_is : (p : Program)
    → printed_text p ≡ (codes "#include <stdint.h>\n" then flat_map range_added p.params then context_added (with_param_names no_names p.params) p.context then prelude_layout p.prelude) ++ function_added p.prelude p
printed_is p =
    ap (λ t. codes "#include <stdint.h>\n" then t then prelude_layout p.prelude then function_layout (function_text p.prelude p)) (pragmas_are p)
    ∙ ap (λ t. codes "#include <stdint.h>\n" then (flat_map range_added p.params ++ context_added (with_param_names no_names p.params) p.context) then prelude_layout p.prelude then t) (function_is p.prelude p)
    ∙ grouped (codes "#include <stdint.h>\n") (flat_map range_added p.params) (context_added (with_param_names no_names p.params) p.context) (prelude_layout p.prelude) (function_added p.prelude p)
  where
    grouped : (a b c d e : List ℕ) → a then (b ++ c) then d then e ≡ (a then b then c then d) ++ e
    grouped a b c d e = simp append_assoc

-- ---- Loops: what is left of a list

left_next : {A : Type 0} (xs : List A) (i : ℕ) (x : A) → i < length xs → x ≡ get_or xs i x → drop i xs ≡ x ∷ drop (suc i) xs
left_next [] i x h e = absurd (omega arith)
left_next (y ∷ ys) zero x h e = ap (λ z. z ∷ ys) (sym e)
left_next (y ∷ ys) (suc i) x h e = left_next ys i x (omega arith) e

pub left_at : {A : Type 0} (xs : List A) (i : ℕ) (x : A) → i < length xs → x ≡ get_or xs i x → drop i xs ≡ x ∷ drop (i + 1) xs
left_at xs i x h e = let one : suc i ≡ i + 1 = omega arith in left_next xs i x h e ∙ ap (λ n. x ∷ drop n xs) one

pub past_end : {A : Type 0} (xs : List A) (i : ℕ) → length xs ≤ i → drop i xs ≡ []
past_end [] zero h = refl
past_end [] (suc i) h = refl
past_end (x ∷ xs) zero h = absurd (omega arith)
past_end (x ∷ xs) (suc i) h = past_end xs i (omega arith)

-- ---- Pieces

four : (a b c d : List ℕ) → a then b then c then d ≡ (a ++ (b ++ c)) ++ d
four a b c d = simp append_assoc

pub decl_pieces : (prelude : Bool) (names : Names) (d : Decl) (w : Name) (slice : List Ix) → w ≡ d.name → slice ≡ d.extents
    → codes "  uint64_t " then d.name then flat_map (dim_added prelude names) d.extents then codes ";\n" ≡ (codes "  uint64_t " ++ (w ++ flat_map (dim_added prelude names) slice)) ++ codes ";\n"
decl_pieces prelude names d w slice is same =
    four (codes "  uint64_t ") d.name (flat_map (dim_added prelude names) d.extents) (codes ";\n")
    ∙ ap (λ n. (codes "  uint64_t " ++ (n ++ flat_map (dim_added prelude names) d.extents)) ++ codes ";\n") (sym is)
    ∙ ap (λ es. (codes "  uint64_t " ++ (w ++ flat_map (dim_added prelude names) es)) ++ codes ";\n") (sym same)

-- one more declaration
pub decls_step : {o o' t : List ℕ} {m : Names} (prelude : Bool) (names n' : Names) (temps : List Decl) (i : ℕ) (d : Decl) (w : Name) → i < length temps → d ≡ get_or temps i d → w ≡ d.name
    → Adds o o' (codes "  uint64_t " then d.name then flat_map (dim_added prelude names) d.extents then codes ";\n") → n' ≡ and_array_name names w
    → (o ++ decls_added prelude names (drop i temps) ≡ t) × (with_array_names names (drop i temps) ≡ m)
    → (o' ++ decls_added prelude n' (drop (i + 1) temps) ≡ t) × (with_array_names n' (drop (i + 1) temps) ≡ m)
decls_step {o = o} {o' = o'} prelude names n' temps i d w lt is named adds shown before =
    let here : drop i temps ≡ d ∷ drop (i + 1) temps = left_at temps i d lt is in
    let sees : n' ≡ and_array_name names d.name = shown ∙ ap (and_array_name names) named in
    let rest = decls_added prelude (and_array_name names d.name) (drop (i + 1) temps) in (
      ap (λ n. o' ++ decls_added prelude n (drop (i + 1) temps)) sees ∙ ap (λ x. x ++ rest) adds.is
          ∙ grouped o (codes "  uint64_t ") d.name (flat_map (dim_added prelude names) d.extents) (codes ";\n") rest
          ∙ ap (λ ds. o ++ decls_added prelude names ds) (sym here) ∙ before.0,
      ap (λ n. with_array_names n (drop (i + 1) temps)) sees ∙ ap (with_array_names names) (sym here) ∙ before.1,
    )
  where
    grouped : (a b c d e f : List ℕ) → (a ++ (b then c then d then e)) ++ f ≡ a ++ (b then c then d then e then f)
    grouped a b c d e f = simp append_assoc

-- one more local
pub locals_step : {o o' t : List ℕ} {m : Names} (prelude : Bool) (level : ℕ) (names n' : Names) (ls : List Local) (i : ℕ) (l : Local) (w : Name) → i < length ls → l ≡ get_or ls i l → w ≡ l.name
    → Adds o o' (local_added prelude level names l) → n' ≡ and_number names w
    → (o ++ locals_added prelude level names (drop i ls) ≡ t) × (with_locals names (drop i ls) ≡ m)
    → (o' ++ locals_added prelude level n' (drop (i + 1) ls) ≡ t) × (with_locals n' (drop (i + 1) ls) ≡ m)
locals_step {o = o} {o' = o'} prelude level names n' ls i l w lt is named adds shown before =
    let here : drop i ls ≡ l ∷ drop (i + 1) ls = left_at ls i l lt is in
    let sees : n' ≡ and_number names l.name = shown ∙ ap (and_number names) named in
    let rest = locals_added prelude level (and_number names l.name) (drop (i + 1) ls) in (
      ap (λ n. o' ++ locals_added prelude level n (drop (i + 1) ls)) sees ∙ ap (λ x. x ++ rest) adds.is ∙ append_assoc o (local_added prelude level names l) rest
          ∙ ap (λ ds. o ++ locals_added prelude level names ds) (sym here) ∙ before.0,
      ap (λ n. with_locals n (drop (i + 1) ls)) sees ∙ ap (with_locals names) (sym here) ∙ before.1,
    )

array_of : (prelude : Bool) (names : Names) (d : Decl) (es : List Ix) → 1 ≤ length es
    → param_layout (array_text prelude names d es) ≡ (const_layout (is_input d.role) ++ (codes "uint64_t " ++ d.name)) ++ flat_map (dim_added prelude names) es
array_of prelude names d [] some = absurd (omega arith)
array_of prelude names d (e ∷ es) some =
    ap (λ t. const_layout (is_input d.role) then codes "uint64_t " then d.name then codes "[" then ix_layout (ix_text prelude names e) then codes "]" then t) (dims_are prelude names es)
    ∙ grouped (const_layout (is_input d.role)) (codes "uint64_t ") d.name (codes "[") (ix_layout (ix_text prelude names e)) (codes "]") (flat_map (dim_added prelude names) es)
  where
    grouped : (a b c d e f g : List ℕ) → a then b then c then d then e then f then g ≡ (a ++ (b ++ c)) ++ ((d then e then f) ++ g)
    grouped a b c d e f g = simp append_assoc

pub array_pieces : (prelude : Bool) (names : Names) (d : Decl) (w : Name) (slice : List Ix) → w ≡ d.name → slice ≡ d.extents → 1 ≤ length slice
    → param_layout (array_text prelude names d d.extents) ≡ (const_layout (is_input d.role) ++ (codes "uint64_t " ++ w)) ++ flat_map (dim_added prelude names) slice
array_pieces prelude names d w slice is same some =
    ap (λ es. param_layout (array_text prelude names d es)) (sym same) ∙ array_of prelude names d slice some
    ∙ ap (λ n. (const_layout (is_input d.role) ++ (codes "uint64_t " ++ n)) ++ flat_map (dim_added prelude names) slice) (sym is)

pub range_pieces : (w : Name) (low high : ℤ)
    → range_added (Number w low high) ≡ (codes "#pragma affc param " ++ w) ++ (codes " " then int_layout (int_text low) then codes " " then int_layout (int_text high) then codes "\n")
range_pieces w low high = sym (append_assoc (codes "#pragma affc param ") w (codes " " then int_layout (int_text low) then codes " " then int_layout (int_text high) then codes "\n"))

pub context_pieces : (names : Names) (cs : List Compare) → 1 ≤ length cs
    → context_added names cs ≡ (codes "#pragma affc context " ++ tests_added names cs) ++ codes "\n"
context_pieces names [] some = absurd (omega arith)
context_pieces names (c ∷ cs) some = sym (append_assoc (codes "#pragma affc context ") (tests_added names (c ∷ cs)) (codes "\n"))

-- the first parameter, and a loop over the others
pub params_end : {o0 o1 o2 : List ℕ} (prelude : Bool) (ps rest : List Param) (x : Param) (n n1 n2 : Names) (i : ℕ) → n ≡ no_names → ps ≡ x ∷ rest → length rest ≤ i
    → Adds o0 o1 (param_layout (param_text prelude n x)) → n1 ≡ and_param_name n x → o2 ++ params_added prelude n2 (drop i rest) ≡ o1 ++ params_added prelude n1 rest
    → Adds o0 o2 (params_layout (params_text prelude ps).0)
params_end {o0 = o0} {o1 = o1} {o2 = o2} prelude ps rest x n n1 n2 i none is past first shown loop =
    let all : params_layout (params_text prelude ps).0 ≡ param_layout (param_text prelude no_names x) ++ params_added prelude (and_param_name no_names x) rest
    = ap (λ l. params_layout (params_text prelude l).0) is ∙ params_are prelude x rest in
    let others : o2 ≡ o1 ++ params_added prelude n1 rest = sym (append-nil o2) ∙ ap (λ l. o2 ++ params_added prelude n2 l) (sym (past_end rest i past)) ∙ loop in
    record {
      is =
          others ∙ ap (λ m. o1 ++ params_added prelude m rest) (shown ∙ ap (λ m. and_param_name m x) none) ∙ ap (λ t. t ++ params_added prelude (and_param_name no_names x) rest) (first.is ∙ ap (λ m. o0 ++ param_layout (param_text prelude m x)) none)
          ∙ append_assoc o0 (param_layout (param_text prelude no_names x)) (params_added prelude (and_param_name no_names x) rest) ∙ ap (λ t. o0 ++ t) (sym all);
    }

pub param_names_start : (ps rest : List Param) (x : Param) (n n1 : Names) → n ≡ no_names → ps ≡ x ∷ rest → n1 ≡ and_param_name n x → with_param_names n1 rest ≡ with_param_names no_names ps
param_names_start ps rest x n n1 none is shown = ap (λ m. with_param_names m rest) (shown ∙ ap (λ m. and_param_name m x) none) ∙ ap (with_param_names no_names) (sym is)

pub param_names_end : {m : Names} (names : Names) (rest : List Param) (i : ℕ) → length rest ≤ i → with_param_names names (drop i rest) ≡ m → names ≡ m
param_names_end names rest i past e = ap (with_param_names names) (sym (past_end rest i past)) ∙ e

pub before_pieces : (p : Program) (names : Names) (s1 s2 : List Param) (s3 : List Compare) → s1 ≡ p.params → names ≡ with_param_names no_names s1 → s2 ≡ p.params → s3 ≡ p.context
    → codes "#include <stdint.h>\n" then flat_map range_added p.params then context_added (with_param_names no_names p.params) p.context then prelude_layout p.prelude
    ≡ (codes "#include <stdint.h>\n" ++ (flat_map range_added s2 ++ context_added names s3)) ++ prelude_layout p.prelude
before_pieces p names s1 s2 s3 e1 named e2 e3 =
    let sees : names ≡ with_param_names no_names p.params = named ∙ ap (with_param_names no_names) e1 in
    four (codes "#include <stdint.h>\n") (flat_map range_added p.params) (context_added (with_param_names no_names p.params) p.context) (prelude_layout p.prelude)
    ∙ ap (λ qs. (codes "#include <stdint.h>\n" ++ (flat_map range_added qs ++ context_added (with_param_names no_names p.params) p.context)) ++ prelude_layout p.prelude) (sym e2)
    ∙ ap (λ n. (codes "#include <stdint.h>\n" ++ (flat_map range_added s2 ++ context_added n p.context)) ++ prelude_layout p.prelude) (sym sees)
    ∙ ap (λ cs. (codes "#include <stdint.h>\n" ++ (flat_map range_added s2 ++ context_added names cs)) ++ prelude_layout p.prelude) (sym e3)

pub whole_text : {o0 o1 : List ℕ} (o2 : List ℕ) (p : Program) → o0 ≡ []
    → Adds o0 o1 (codes "#include <stdint.h>\n" then flat_map range_added p.params then context_added (with_param_names no_names p.params) p.context then prelude_layout p.prelude)
    → Adds o1 o2 (function_added p.prelude p) → o2 ≡ printed_text p
whole_text o2 p none before function =
    function.is ∙ ap (λ o. o ++ function_added p.prelude p) (before.is ∙ ap (λ o. o ++ (codes "#include <stdint.h>\n" then flat_map range_added p.params then context_added (with_param_names no_names p.params) p.context then prelude_layout p.prelude)) none)
    ∙ sym (printed_is p)
