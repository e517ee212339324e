-- The pieces in which locals and statements are written.
use Rattle.std.proofs.Common.{◌≡◌, ◌+◌, ◌≤◌, ℕ, zero, suc, Result, Ok, Err, OnOk, Bool, true, false, List, [], ◌∷◌, ◌++◌, map, take, length, codes, Option, refl, sym, ap, subst, ◌∙◌, append_assoc, arith}
use Rattle.std.specs.List.{flat_map}
use Rattle.std.proofs.lemmas.List.{append-nil}
use Rattle.affc_ast.specs.declared.tree.ArrayId.{ArrayId}
use Rattle.affc_ast.specs.declared.tree.Cond.{Cond}
use Rattle.affc_ast.specs.declared.tree.Ix.{Ix}
use Rattle.affc_ast.specs.declared.tree.Local.{Local}
use Rattle.affc_ast.specs.declared.tree.Op.{Op}
use Rattle.affc_ast.specs.declared.tree.Rel.{Rel}
use Rattle.affc_ast.specs.declared.tree.Val.{Val}
use Rattle.affc_ast.specs.declared.tree.Stmt.{Stmt}
use Rattle.affc_ast.specs.declared.tree.Stmt.TheVariants.{For, If, Assign, Block}
pub use Rattle.affc_ast.proofs.Steps.{for_here, if_here, block_here}
use Rattle.affc_grammar.specs.Grammar.{Name, StmtText, no_stmts, no_locals, bound_mark, assign_mark}
use Rattle.affc_grammar.specs.Printed.{Names, array_name, value_text, ix_text, cond_text, and_number, is_less, stmt_step, stmt_text, stmts_text, locals_text}
use Rattle.affc_cprint.specs.Adds.{Adds}
use Rattle.affc_cprint.proofs.Writes.{◌next◌}
use Rattle.affc_cprint.specs.Layout.{◌then◌, ix_layout, value_layout, cond_layout, indent, locals_layout, stmts_layout, stmt_layout}
use Rattle.affc_cprint.specs.Statements.{first_numbers, head_layout, if_layout, assign_layout, local_added, locals_added, with_locals, stmts_added, line_added}
use Rattle.affc_cprint.proofs.Chains.{dims_are, stmts_are, locals_are, locals_names}

six : (a b c d e f : List ℕ) → a then b then c then d then e then f ≡ (a ++ (b ++ (c ++ (d ++ e)))) ++ f
six a b c d e f = simp append_assoc

pub local_pieces : (prelude : Bool) (level : ℕ) (names : Names) (l : Local) (w : Name) → prelude ≡ true → w ≡ l.name
    → local_added prelude level names l ≡ (indent level ++ (codes "const int64_t " ++ (w ++ (codes " = " ++ ix_layout (ix_text prelude names l.value))))) ++ codes ";\n"
local_pieces true level names l w on is =
    six (indent level) (codes "const int64_t ") l.name (codes " = ") (ix_layout (ix_text true names l.value)) (codes ";\n")
    ∙ ap (λ n. (indent level ++ (codes "const int64_t " ++ (n ++ (codes " = " ++ ix_layout (ix_text true names l.value))))) ++ codes ";\n") (sym is)
local_pieces false level names l w on is = absurd (cc)

-- a body is its lines
pub lines_are : (prelude : Bool) (level : ℕ) (names : Names) (body : List Stmt)
    → stmts_layout level (stmts_text {prelude = prelude} names no_stmts (map (stmt_text prelude) body)) ≡ flat_map (line_added prelude level names) body
lines_are prelude level names body = stmts_are level names (map (stmt_text prelude) body) ∙ mapped body
  where
    mapped : (xs : List Stmt) → stmts_added level names (map (stmt_text prelude) xs) ≡ flat_map (line_added prelude level names) xs
    mapped [] = refl
    mapped (x ∷ xs) = ap (λ t. line_added prelude level names x ++ t) (mapped xs)

-- ---- Statements

for_grouped : (a i b l c i' d m e h g i'' p q o body n z : List ℕ)
    → a then i then b then l then c then i' then d then m then e then h then g then (i'' then p) then q then (o then body then n then z)
    ≡ ((a then i then b then l then c then i' then d then m then e then h then g then i'' then (p then q then o)) ++ body) ++ (n then z)
for_grouped a i b l c i' d m e h g i'' p q o body n z = simp append_assoc

pub for_pieces : (prelude : Bool) (level : ℕ) (names : Names) (s : Stmt) (iter : Name) (low : Ix) (rel : Rel) (high : Ix) (body slice : List Stmt) → s ≡ For iter low rel high body → slice ≡ body
    → stmt_layout level (stmt_text prelude s names) ≡ (head_layout prelude names iter low rel high ++ flat_map (line_added prelude (suc level) (and_number names iter)) slice) ++ (indent level then codes "}\n")
for_pieces prelude level names s iter low rel high body slice is same =
    ap (λ x. stmt_layout level (stmt_text prelude x names)) is
    ∙ ap (λ (g : Names → StmtText prelude). stmt_layout level (g names)) (for_here (stmt_step prelude) iter low rel high body)
    ∙ for_grouped (codes "for (int64_t ") iter (codes " = ") (ix_layout (ix_text prelude names low)) (codes "; ") iter (codes " ") (bound_mark (is_less rel)) (codes " ") (ix_layout (ix_text prelude names high)) (codes "; ") iter (codes "++") (codes ")") (codes " {\n")
    (stmts_layout (suc level) (stmts_text (and_number names iter) no_stmts (map (stmt_text prelude) body))) (indent level) (codes "}\n")
    ∙ ap (λ t. (head_layout prelude names iter low rel high ++ t) ++ (indent level then codes "}\n")) (lines_are prelude (suc level) (and_number names iter) body)
    ∙ ap (λ b. (head_layout prelude names iter low rel high ++ flat_map (line_added prelude (suc level) (and_number names iter)) b) ++ (indent level then codes "}\n")) (sym same)

if_grouped : (a cs q o body n z : List ℕ) → a then cs then q then (o then body then n then z) ≡ ((a ++ (cs ++ (q then o))) ++ body) ++ (n then z)
if_grouped a cs q o body n z = simp append_assoc

pub if_pieces : (prelude : Bool) (level : ℕ) (names : Names) (s : Stmt) (c : Cond) (body slice other : List Stmt) → s ≡ If c body other → slice ≡ body → other ≡ []
    → stmt_layout level (stmt_text prelude s names) ≡ (if_layout prelude names c ++ flat_map (line_added prelude (suc level) names) slice) ++ (indent level then codes "}\n")
if_pieces prelude level names s c body slice other is same none =
    ap (λ x. stmt_layout level (stmt_text prelude x names)) (is ∙ ap (If c body) none)
    ∙ ap (λ (g : Names → StmtText prelude). stmt_layout level (g names)) (if_here (stmt_step prelude) c body [])
    ∙ if_grouped (codes "if (") (cond_layout (cond_text prelude names c)) (codes ")") (codes " {\n") (stmts_layout (suc level) (stmts_text names no_stmts (map (stmt_text prelude) body))) (indent level) (codes "}\n")
    ∙ ap (λ t. (if_layout prelude names c ++ t) ++ (indent level then codes "}\n")) (lines_are prelude (suc level) names body)
    ∙ ap (λ b. (if_layout prelude names c ++ flat_map (line_added prelude (suc level) names) b) ++ (indent level then codes "}\n")) (sym same)

else_grouped : (a cs q o body n e o' other z : List ℕ) → a then cs then q then (o then body then n then e) then (o' then other then n then z) ≡ ((((a ++ (cs ++ (q then o))) ++ body) ++ (n then (e then o'))) ++ other) ++ (n then z)
else_grouped a cs q o body n e o' other z = simp append_assoc

pub else_pieces : (prelude : Bool) (level : ℕ) (names : Names) (s : Stmt) (c : Cond) (body slice other slice' : List Stmt) → s ≡ If c body other → slice ≡ body → slice' ≡ other → 1 ≤ length other
    → stmt_layout level (stmt_text prelude s names)
    ≡ (((if_layout prelude names c ++ flat_map (line_added prelude (suc level) names) slice) ++ (indent level then codes "} else {\n")) ++ flat_map (line_added prelude (suc level) names) slice') ++ (indent level then codes "}\n")
else_pieces prelude level names s c body slice [] slice' is same same' some = absurd (omega arith)
else_pieces prelude level names s c body slice (y ∷ ys) slice' is same same' some =
    let add = line_added prelude (suc level) names in
    let end = indent level then codes "}\n" in
    let between = indent level then codes "} else {\n" in
    ap (λ x. stmt_layout level (stmt_text prelude x names)) is
    ∙ ap (λ (g : Names → StmtText prelude). stmt_layout level (g names)) (if_here (stmt_step prelude) c body (y ∷ ys))
    ∙ else_grouped (codes "if (") (cond_layout (cond_text prelude names c)) (codes ")") (codes " {\n") (stmts_layout (suc level) (stmts_text names no_stmts (map (stmt_text prelude) body))) (indent level) (codes "} else") (codes " {\n") (stmts_layout (suc level) (stmts_text names no_stmts (map (stmt_text prelude) (y ∷ ys)))) (codes "}\n")
    ∙ ap (λ t. (((if_layout prelude names c ++ t) ++ between) ++ stmts_layout (suc level) (stmts_text names no_stmts (map (stmt_text prelude) (y ∷ ys)))) ++ end) (lines_are prelude (suc level) names body)
    ∙ ap (λ t. (((if_layout prelude names c ++ flat_map add body) ++ between) ++ t) ++ end) (lines_are prelude (suc level) names (y ∷ ys))
    ∙ ap (λ b. (((if_layout prelude names c ++ flat_map add b) ++ between) ++ flat_map add (y ∷ ys)) ++ end) (sym same)
    ∙ ap (λ b. (((if_layout prelude names c ++ flat_map add slice) ++ between) ++ flat_map add b) ++ end) (sym same')

block_grouped : (a ls body n z : List ℕ) → a then ls then body then n then z ≡ ((a ++ ls) ++ body) ++ (n then z)
block_grouped a ls body n z = simp append_assoc

pub block_pieces : (prelude : Bool) (level : ℕ) (names : Names) (s : Stmt) (ls these : List Local) (body slice : List Stmt) → s ≡ Block ls body → these ≡ ls → slice ≡ body
    → stmt_layout level (stmt_text prelude s names) ≡ ((codes "{\n" ++ locals_added prelude (suc level) names these) ++ flat_map (line_added prelude (suc level) (with_locals names these)) slice) ++ (indent level then codes "}\n")
block_pieces prelude level names s ls these body slice is those same =
    let r = locals_text prelude names no_locals ls in
    ap (λ x. stmt_layout level (stmt_text prelude x names)) is
    ∙ ap (λ (g : Names → StmtText prelude). stmt_layout level (g names)) (block_here (stmt_step prelude) ls body)
    ∙ block_grouped (codes "{\n") (locals_layout (suc level) r.0) (stmts_layout (suc level) (stmts_text r.1 no_stmts (map (stmt_text prelude) body))) (indent level) (codes "}\n")
    ∙ ap (λ t. ((codes "{\n" ++ t) ++ stmts_layout (suc level) (stmts_text r.1 no_stmts (map (stmt_text prelude) body))) ++ (indent level then codes "}\n")) (locals_are prelude (suc level) names ls)
    ∙ ap (λ t. ((codes "{\n" ++ locals_added prelude (suc level) names ls) ++ t) ++ (indent level then codes "}\n")) (lines_are prelude (suc level) r.1 body)
    ∙ ap (λ ns. ((codes "{\n" ++ locals_added prelude (suc level) names ls) ++ flat_map (line_added prelude (suc level) ns) body) ++ (indent level then codes "}\n")) (locals_names prelude names ls)
    ∙ ap (λ b. ((codes "{\n" ++ locals_added prelude (suc level) names ls) ++ flat_map (line_added prelude (suc level) (with_locals names ls)) b) ++ (indent level then codes "}\n")) (sym same)
    ∙ ap (λ t. ((codes "{\n" ++ locals_added prelude (suc level) names t) ++ flat_map (line_added prelude (suc level) (with_locals names t)) slice) ++ (indent level then codes "}\n")) (sym those)

pub assign_pieces : (prelude : Bool) (level : ℕ) (names : Names) (s : Stmt) (op : Option Op) (id : ArrayId) (subs slice : List Ix) (v : Val) → s ≡ Assign op id subs v → slice ≡ subs
    → stmt_layout level (stmt_text prelude s names) ≡ assign_layout prelude names op id slice v
assign_pieces prelude level names s op id subs slice v is same =
    ap (λ x. stmt_layout level (stmt_text prelude x names)) is
    ∙ ap (λ t. array_name names id then t then codes " " then assign_mark op then codes " " then value_layout (value_text prelude names v) then codes ";\n") (dims_are prelude names subs)
    ∙ ap (λ es. assign_layout prelude names op id es v) (sym same)

-- ---- Names that go out of sight

with_names : (names : Names) (xs : List Local) → with_locals names xs ≡ record names { numbers = names.numbers ++ map (λ l. l.name) xs }
with_names names [] = ap (λ ns. record names { numbers = ns }) (sym (append-nil names.numbers))
with_names names (l ∷ xs) = with_names (and_number names l.name) xs ∙ ap (λ ns. record names { numbers = ns }) (append_assoc names.numbers (l.name ∷ []) (map (λ l. l.name) xs))

front_of : (xs ys : List Name) → take (length xs) (xs ++ ys) ≡ xs
front_of [] ys = refl
front_of (x ∷ xs) ys = ap (λ t. x ∷ t) (front_of xs ys)

pub iterator_gone : (names : Names) (w : Name) → first_numbers (length names.numbers) (and_number names w) ≡ names
iterator_gone names w = ap (λ ns. record names { numbers = ns }) (front_of names.numbers (w ∷ []))

pub locals_gone : (names : Names) (xs : List Local) → first_numbers (length names.numbers) (with_locals names xs) ≡ names
locals_gone names xs = ap (first_numbers (length names.numbers)) (with_names names xs) ∙ ap (λ ns. record names { numbers = ns }) (front_of names.numbers (map (λ l. l.name) xs))

pub taken : {A B : Type 0} (f : A → B) (n : ℕ) (xs : List A) → map f (take n xs) ≡ take n (map f xs)
taken f zero xs = refl
taken f (suc n) [] = refl
taken f (suc n) (x ∷ xs) = ap (λ t. f x ∷ t) (taken f n xs)

-- ---- The ends of the arms

ends_with : {A E P : Type 0} (r : Result A E) {o0 o1 a : List ℕ} (o2 b t : List ℕ) → Adds o0 o1 a → OnOk r (Adds o1 o2 b) → t ≡ a ++ b → P → OnOk r (Adds o0 o2 t × P)
ends_with (Ok x) {o0 = o0} o2 b t p q e held = (record { is = (p next q).is ∙ ap (λ s. o0 ++ s) (sym e) }, held)
ends_with (Err x) o2 b t p q e held = q

pub for_exit : {A E : Type 0} (r : Result A E) {o0 o1 o2 : List ℕ} (o3 : List ℕ) (prelude : Bool) (level : ℕ) (names : Names) (s : Stmt) (iter w v : Name) (low : Ix) (rel : Rel) (high : Ix) (body slice : List Stmt) (n1 n2 n3 : Names) (inner held : ℕ)
    → s ≡ For iter low rel high body → slice ≡ body → w ≡ iter → v ≡ iter → inner ≡ level + 1 → held ≡ length names.numbers
    → Adds o0 o1 (head_layout prelude names w low rel high) → n1 ≡ and_number names v
    → Adds o1 o2 (flat_map (line_added prelude inner n1) slice) → n2 ≡ n1 → n3 ≡ first_numbers held n2
    → OnOk r (Adds o2 o3 (indent level then codes "}\n")) → OnOk r (Adds o0 o3 (stmt_layout level (stmt_text prelude s names)) × (n3 ≡ names))
for_exit r o3 prelude level names s iter w v low rel high body slice n1 n2 n3 inner held is same ws vs deep count before shown loop kept gone fin =
    let q : inner ≡ suc level = omega arith in
    let lines : flat_map (line_added prelude inner n1) slice ≡ flat_map (line_added prelude (suc level) (and_number names iter)) slice
    = ap (λ k. flat_map (line_added prelude k n1) slice) q ∙ ap (λ n. flat_map (line_added prelude (suc level) n) slice) (shown ∙ ap (and_number names) vs) in
    let tree : stmt_layout level (stmt_text prelude s names) ≡ (head_layout prelude names w low rel high ++ flat_map (line_added prelude inner n1) slice) ++ (indent level then codes "}\n")
    = for_pieces prelude level names s iter low rel high body slice is same
    ∙ ap (λ x. (head_layout prelude names x low rel high ++ flat_map (line_added prelude (suc level) (and_number names iter)) slice) ++ (indent level then codes "}\n")) (sym ws)
    ∙ ap (λ t. (head_layout prelude names w low rel high ++ t) ++ (indent level then codes "}\n")) (sym lines) in
    let back : n3 ≡ names = gone ∙ ap (first_numbers held) (kept ∙ shown) ∙ ap (λ k. first_numbers k (and_number names v)) count ∙ iterator_gone names v in
    ends_with r o3 (indent level then codes "}\n") (stmt_layout level (stmt_text prelude s names)) (before next loop) fin tree back

none_of : (slice other : List Stmt) → slice ≡ other → length slice ≡ 0 → other ≡ []
none_of [] other e h = sym e
none_of (x ∷ xs) other e h = absurd (omega arith)

pub if_exit : {A E : Type 0} (r : Result A E) {o0 o1 o2 : List ℕ} (o3 : List ℕ) (prelude : Bool) (level : ℕ) (names : Names) (s : Stmt) (c : Cond) (body slice other slice' : List Stmt) (n1 : Names) (inner : ℕ)
    → s ≡ If c body other → slice ≡ body → slice' ≡ other → length slice' ≡ 0 → inner ≡ level + 1
    → Adds o0 o1 (if_layout prelude names c) → Adds o1 o2 (flat_map (line_added prelude inner names) slice) → n1 ≡ names
    → OnOk r (Adds o2 o3 (indent level then codes "}\n")) → OnOk r (Adds o0 o3 (stmt_layout level (stmt_text prelude s names)) × (n1 ≡ names))
if_exit r o3 prelude level names s c body slice other slice' n1 inner is same same' none deep before loop kept fin =
    let q : inner ≡ suc level = omega arith in
    let lines : flat_map (line_added prelude inner names) slice ≡ flat_map (line_added prelude (suc level) names) slice
    = ap (λ k. flat_map (line_added prelude k names) slice) q in
    let tree : stmt_layout level (stmt_text prelude s names) ≡ (if_layout prelude names c ++ flat_map (line_added prelude inner names) slice) ++ (indent level then codes "}\n")
    = if_pieces prelude level names s c body slice other is same (none_of slice' other same' none)
    ∙ ap (λ t. (if_layout prelude names c ++ t) ++ (indent level then codes "}\n")) (sym lines) in
    ends_with r o3 (indent level then codes "}\n") (stmt_layout level (stmt_text prelude s names)) (before next loop) fin tree kept

pub else_exit : {A E : Type 0} (r : Result A E) {o0 o1 o2 o3 o4 : List ℕ} (o5 : List ℕ) (prelude : Bool) (level : ℕ) (names : Names) (s : Stmt) (c : Cond) (body slice other slice' : List Stmt) (n1 n2 : Names) (inner : ℕ)
    → s ≡ If c body other → slice ≡ body → slice' ≡ other → 1 ≤ length slice' → inner ≡ level + 1
    → Adds o0 o1 (if_layout prelude names c) → Adds o1 o2 (flat_map (line_added prelude inner names) slice) → n1 ≡ names
    → Adds o2 o3 (indent level then codes "} else {\n") → Adds o3 o4 (flat_map (line_added prelude inner n1) slice') → n2 ≡ n1
    → OnOk r (Adds o4 o5 (indent level then codes "}\n")) → OnOk r (Adds o0 o5 (stmt_layout level (stmt_text prelude s names)) × (n2 ≡ names))
else_exit r o5 prelude level names s c body slice other slice' n1 n2 inner is same same' some deep before loop kept between loop' kept' fin =
    let q : inner ≡ suc level = omega arith in
    let at_least : 1 ≤ length other = subst (λ l. 1 ≤ length l) same' some in
    let lines : (ss : List Stmt) → flat_map (line_added prelude inner names) ss ≡ flat_map (line_added prelude (suc level) names) ss
    = λ ss. ap (λ k. flat_map (line_added prelude k names) ss) q in
    let lines' : flat_map (line_added prelude inner n1) slice' ≡ flat_map (line_added prelude (suc level) names) slice'
    = ap (λ n. flat_map (line_added prelude inner n) slice') kept ∙ lines slice' in
    let end = indent level then codes "}\n" in
    let middle = indent level then codes "} else {\n" in
    let tree : stmt_layout level (stmt_text prelude s names)
    ≡ (((if_layout prelude names c ++ flat_map (line_added prelude inner names) slice) ++ middle) ++ flat_map (line_added prelude inner n1) slice') ++ end
    = else_pieces prelude level names s c body slice other slice' is same same' at_least
    ∙ ap (λ t. (((if_layout prelude names c ++ t) ++ middle) ++ flat_map (line_added prelude (suc level) names) slice') ++ end) (sym (lines slice))
    ∙ ap (λ t. (((if_layout prelude names c ++ flat_map (line_added prelude inner names) slice) ++ middle) ++ t) ++ end) (sym lines') in
    ends_with r o5 end (stmt_layout level (stmt_text prelude s names)) (((before next loop) next between) next loop') fin tree (kept' ∙ kept)

pub block_exit : {A E : Type 0} (r : Result A E) {o0 o1 o2 : List ℕ} (o3 : List ℕ) (prelude : Bool) (level : ℕ) (names : Names) (s : Stmt) (ls these : List Local) (body slice : List Stmt) (n1 n2 n3 : Names) (inner held : ℕ)
    → s ≡ Block ls body → these ≡ ls → slice ≡ body → inner ≡ level + 1 → held ≡ length names.numbers
    → Adds o0 o1 (codes "{\n" ++ locals_added prelude inner names these) → n1 ≡ with_locals names these
    → Adds o1 o2 (flat_map (line_added prelude inner n1) slice) → n2 ≡ n1 → n3 ≡ first_numbers held n2
    → OnOk r (Adds o2 o3 (indent level then codes "}\n")) → OnOk r (Adds o0 o3 (stmt_layout level (stmt_text prelude s names)) × (n3 ≡ names))
block_exit r o3 prelude level names s ls these body slice n1 n2 n3 inner held is those same deep count before shown loop kept gone fin =
    let q : inner ≡ suc level = omega arith in
    let lines : flat_map (line_added prelude inner n1) slice ≡ flat_map (line_added prelude (suc level) (with_locals names these)) slice
    = ap (λ k. flat_map (line_added prelude k n1) slice) q ∙ ap (λ n. flat_map (line_added prelude (suc level) n) slice) shown in
    let tree : stmt_layout level (stmt_text prelude s names) ≡ ((codes "{\n" ++ locals_added prelude inner names these) ++ flat_map (line_added prelude inner n1) slice) ++ (indent level then codes "}\n")
    = block_pieces prelude level names s ls these body slice is those same
    ∙ ap (λ k. ((codes "{\n" ++ locals_added prelude k names these) ++ flat_map (line_added prelude (suc level) (with_locals names these)) slice) ++ (indent level then codes "}\n")) (sym q)
    ∙ ap (λ t. ((codes "{\n" ++ locals_added prelude inner names these) ++ t) ++ (indent level then codes "}\n")) (sym lines) in
    let back : n3 ≡ names = gone ∙ ap (first_numbers held) (kept ∙ shown) ∙ ap (λ k. first_numbers k (with_locals names these)) count ∙ locals_gone names these in
    ends_with r o3 (indent level then codes "}\n") (stmt_layout level (stmt_text prelude s names)) (before next loop) fin tree back

pub assign_exit : {A E : Type 0} (r : Result A E) (o0 o1 t u : List ℕ) (n : Names) → u ≡ t → OnOk r (Adds o0 o1 t) → OnOk r (Adds o0 o1 u × (n ≡ n))
assign_exit (Ok x) o0 o1 t u n e q = (record { is = q.is ∙ ap (λ l. o0 ++ l) (sym e) }, refl)
assign_exit (Err x) o0 o1 t u n e q = q
