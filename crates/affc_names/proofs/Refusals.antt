-- What is refused doesn't depend on numbers: neither on those of a draft, nor on those that count the things of a scope.
use Rattle.std.proofs.Common.{◌≡◌, ℕ, Bool, true, false, List, [], ◌∷◌, length, map, Option, Some, None, Ok, Err, ℤ, cond, refl, sym, ap, ◌∙◌, subst}
use Rattle.std.proofs.lemmas.List.{length-map}
use Rattle.std.specs.Option.{option_map}
use Rattle.affc_lex.specs.Bytes.{same}
use Rattle.affc_ast.specs.declared.tree.Program.{Program}
use Rattle.affc_grammar.specs.declared.fault.NameWhy.{NameWhy}
use Rattle.affc_grammar.specs.Grammar.{Name}
use Rattle.affc_grammar.specs.Draft as d
use Rattle.affc_grammar.specs.Names.{Thing, function, number, array, Scope, thing_of, with_number, with_array, with_param, with_params, outermost, why_number, why_array, why_declared, why_repeated, why_ranged, function_why, Refusal, Checked, ◌>>=◌, allowed, each, number_named, array_named, ix_tree, compare_tree, conds_tree, cond_tree, value_tree, locals_tree, head_tree, stmts_tree, stmt_tree, pragmas_tree, range_of, number_tree, decl_tree, param_tree, params_tree, temps_tree, program_tree}
use Rattle.affc_names.specs.Kinds.{kind_of, AreAlike}
use Rattle.affc_names.specs.Stored as stored

-- both refused, and alike; or neither, and then related
abbrev pub Same : {A B : Type 0} → (A → B → Type 0) → Checked A → Checked B → Type 0
Same R (Ok a) (Ok b) = R a b
Same R (Ok a) (Err s) = ⊥
Same R (Err r) (Ok b) = ⊥
Same R (Err r) (Err s) = r ≡ s

abbrev pub Any : {A B : Type 0} → A → B → Type 0
Any a b = Unit {0}

same_bind : {A B C D : Type 0} (R : A → B → Type 0) (S : C → D → Type 0) (m : Checked A) (n : Checked B) (f : A → Checked C) (g : B → Checked D)
    → Same R m n → ((a : A) (b : B) → R a b → Same S (f a) (g b)) → Same S (m >>= f) (n >>= g)
same_bind R S (Ok a) (Ok b) f g h k = k a b h
same_bind R S (Ok a) (Err s) f g h k = absurd h
same_bind R S (Err r) (Ok b) f g h k = absurd h
same_bind R S (Err r) (Err s) f g h k = h

same_allowed : {A B : Type 0} (R : A → B → Type 0) (w v : Option NameWhy) (at : ℕ) (m : Checked A) (n : Checked B) → w ≡ v → Same R m n → Same R (allowed w at m) (allowed v at n)
same_allowed R None None at m n e h = h
same_allowed R (Some w) (Some v) at m n e h = ap (λ o. refusal o) e
  where
    refusal : Option NameWhy → Refusal
    refusal None = record { at = at; why = w }
    refusal (Some u) = record { at = at; why = u }
same_allowed R None (Some v) at m n e h = absurd (cc)
same_allowed R (Some w) None at m n e h = absurd (cc)

same_each : {A B C D : Type 0} (h : A → B) (f : B → Checked C) (g : A → Checked D) → ((x : A) → Same Any (f (h x)) (g x)) → (xs : List A) → Same Any (each f (map h xs)) (each g xs)
same_each h f g k [] = tt
same_each h f g k (x ∷ xs) = same_bind Any Any (f (h x)) (g x) _ _ (k x) (λ a b _. same_bind Any Any (each f (map h xs)) (each g xs) _ _ (same_each h f g k xs) (λ _ _ _. tt))

-- ---- Names

number_why : (s t : Scope) (w : Name) (a b : Option Thing) → s.has_prelude ≡ t.has_prelude → kind_of a ≡ kind_of b → why_number s w a ≡ why_number t w b
number_why s t w a b h e = plain s a ∙ ap (why_number s w) e ∙ over s t (kind_of b) h ∙ sym (plain t b)
  where
    plain : (u : Scope) (o : Option Thing) → why_number u w o ≡ why_number u w (kind_of o)
    plain u None = refl
    plain u (Some function) = refl
    plain u (Some (number id it)) = refl
    plain u (Some (array id role n)) = refl

    over : (u v : Scope) (o : Option Thing) → u.has_prelude ≡ v.has_prelude → why_number u w o ≡ why_number v w o
    over u v None k = refl
    over u v (Some function) k = ap (λ b. why_number (record { has_prelude = b; visible = [] }) w (Some function)) k
    over u v (Some (number id it)) k = ap (λ b. why_number (record { has_prelude = b; visible = [] }) w (Some (number id it))) k
    over u v (Some (array id role n)) k = ap (λ b. why_number (record { has_prelude = b; visible = [] }) w (Some (array id role n))) k

ranged_why : (s t : Scope) (earlier : List Name) (w : Name) (a b : Option Thing) → s.has_prelude ≡ t.has_prelude → kind_of a ≡ kind_of b → why_ranged s earlier w a ≡ why_ranged t earlier w b
ranged_why s t earlier w a b h e = plain s a ∙ ap (why_ranged s earlier w) e ∙ over s t (kind_of b) h ∙ sym (plain t b)
  where
    plain : (u : Scope) (o : Option Thing) → why_ranged u earlier w o ≡ why_ranged u earlier w (kind_of o)
    plain u None = refl
    plain u (Some function) = refl
    plain u (Some (number id it)) = refl
    plain u (Some (array id role n)) = refl

    over : (u v : Scope) (o : Option Thing) → u.has_prelude ≡ v.has_prelude → why_ranged u earlier w o ≡ why_ranged v earlier w o
    over u v None k = refl
    over u v (Some function) k = ap (λ b. why_ranged (record { has_prelude = b; visible = [] }) earlier w (Some function)) k
    over u v (Some (number id it)) k = ap (λ b. why_ranged (record { has_prelude = b; visible = [] }) earlier w (Some (number id it))) k
    over u v (Some (array id role n)) k = ap (λ b. why_ranged (record { has_prelude = b; visible = [] }) earlier w (Some (array id role n))) k

-- ---- Expressions

ix_same : (s t : Scope) → AreAlike s t → (e : d.IxDraft) → Same Any (ix_tree s (stored.ix e)) (ix_tree t e)
ix_same s t h (d.literal at n) = tt
ix_same s t h (d.name at w) =
    same_bind Any Any (number_named s at w) (number_named t at w) _ _
    (same_allowed Any (why_number s w (thing_of s w)) (why_number t w (thing_of t w)) at _ _ (number_why s t w (thing_of s w) (thing_of t w) h.has_prelude (h.kinds w)) tt) (λ _ _ _. tt)
ix_same s t h (d.negated at a) = same_bind Any Any _ _ _ _ (ix_same s t h a) (λ _ _ _. tt)
ix_same s t h (d.sum a b) = same_bind Any Any _ _ _ _ (ix_same s t h a) (λ _ _ _. same_bind Any Any _ _ _ _ (ix_same s t h b) (λ _ _ _. tt))
ix_same s t h (d.difference a b) = same_bind Any Any _ _ _ _ (ix_same s t h a) (λ _ _ _. same_bind Any Any _ _ _ _ (ix_same s t h b) (λ _ _ _. tt))
ix_same s t h (d.product at a b) = same_bind Any Any _ _ _ _ (ix_same s t h a) (λ _ _ _. same_bind Any Any _ _ _ _ (ix_same s t h b) (λ _ _ _. tt))
ix_same s t h (d.grouped at a) = ix_same s t h a
ix_same s t h (d.chosen at f a b) = same_bind Any Any _ _ _ _ (ix_same s t h a) (λ _ _ _. same_bind Any Any _ _ _ _ (ix_same s t h b) (λ _ _ _. tt))
ix_same s t h (d.divided at f a by_at by) = same_bind Any Any _ _ _ _ (ix_same s t h a) (λ _ _ _. tt)

compare_same : (s t : Scope) → AreAlike s t → (c : d.CompareDraft) → Same Any (compare_tree s (stored.compare c)) (compare_tree t c)
compare_same s t h c = same_bind Any Any _ _ _ _ (ix_same s t h c.left) (λ _ _ _. same_bind Any Any _ _ _ _ (ix_same s t h c.right) (λ _ _ _. tt))

itself : (s : Scope) → AreAlike s s
itself s = record { has_prelude = refl; kinds = λ w. refl }

mutual
  conds_same : (s : Scope) (cs : d.CondsDraft) → Same Any (conds_tree s (stored.conds cs)) (conds_tree s cs)
  conds_same s d.no_conds = tt
  conds_same s (d.and_cond cs c) = same_bind Any Any _ _ _ _ (conds_same s cs) (λ _ _ _. same_bind Any Any _ _ _ _ (cond_same s c) (λ _ _ _. tt))

  cond_same : (s : Scope) (c : d.CondDraft) → Same Any (cond_tree s (stored.cond c)) (cond_tree s c)
  cond_same s (d.comparison c) = same_bind Any Any _ _ _ _ (ix_same s s (itself s) c.left) (λ _ _ _. same_bind Any Any _ _ _ _ (ix_same s s (itself s) c.right) (λ _ _ _. tt))
  cond_same s (d.divisible a by_at by so) = same_bind Any Any _ _ _ _ (ix_same s s (itself s) a) (λ _ _ _. tt)
  cond_same s (d.all_of cs) = same_bind Any Any _ _ _ _ (conds_same s cs) (λ _ _ _. tt)
  cond_same s (d.any_of cs) = same_bind Any Any _ _ _ _ (conds_same s cs) (λ _ _ _. tt)

ixs_same : (s : Scope) (es : List d.IxDraft) → Same Any (each (ix_tree s) (map stored.ix es)) (each (ix_tree s) es)
ixs_same s es = same_each stored.ix (ix_tree s) (ix_tree s) (ix_same s s (itself s)) es

array_same : (s : Scope) (at : ℕ) (w : Name) (is_store : Bool) (n m : ℕ) → n ≡ m → Same Any (array_named s at w is_store n) (array_named s at w is_store m)
array_same s at w is_store n m e = same_allowed Any _ _ at _ _ (ap (λ k. why_array s w is_store k (thing_of s w)) e) tt

value_same : (s : Scope) (v : d.ValueDraft) → Same Any (value_tree s (stored.value v)) (value_tree s v)
value_same s (d.load at w subs) =
    same_bind Any Any _ _ _ _ (array_same s at w false (length (map stored.ix subs)) (length subs) (length-map subs stored.ix)) (λ _ _ _. same_bind Any Any _ _ _ _ (ixs_same s subs) (λ _ _ _. tt))
value_same s (d.constant n) = tt
value_same s (d.cast a) = same_bind Any Any _ _ _ _ (ix_same s s (itself s) a) (λ _ _ _. tt)
value_same s (d.complement v) = same_bind Any Any _ _ _ _ (value_same s v) (λ _ _ _. tt)
value_same s (d.binary op v w) = same_bind Any Any _ _ _ _ (value_same s v) (λ _ _ _. same_bind Any Any _ _ _ _ (value_same s w) (λ _ _ _. tt))
value_same s (d.shift left v by) = same_bind Any Any _ _ _ _ (value_same s v) (λ _ _ _. tt)

-- ---- Statements

abbrev SameScope : {A B : Type 0} → A × Scope → B × Scope → Type 0
SameScope a b = a.1 ≡ b.1

locals_same : (s : Scope) (ls : List d.LocalDraft) → Same SameScope (locals_tree s (map stored.local ls)) (locals_tree s ls)
locals_same s [] = refl
locals_same s (l ∷ ls) =
    same_allowed SameScope (why_declared s false l.name) (why_declared s false l.name) l.at _ _ refl
    (same_bind Any SameScope _ _ _ _ (ix_same s s (itself s) l.value) (λ _ _ _.
    same_bind SameScope SameScope _ _ _ _ (locals_same (with_number false s l.name) ls) (λ _ _ e. e)))

head_same : (s : Scope) (h : d.HeadDraft) → Same Any (head_tree s (stored.head h)) (head_tree s h)
head_same s h =
    same_allowed Any (why_declared s true h.iterator.name) (why_declared s true h.iterator.name) h.iterator.at _ _ refl
    (same_bind Any Any _ _ _ _ (ix_same s s (itself s) h.low) (λ _ _ _.
    same_allowed Any (why_repeated s h.iterator.name h.tested.name) (why_repeated s h.iterator.name h.tested.name) h.tested.at _ _ refl
    (same_bind Any Any _ _ _ _ (ix_same s s (itself s) h.high) (λ _ _ _.
    same_allowed Any (why_repeated s h.iterator.name h.stepped.name) (why_repeated s h.iterator.name h.stepped.name) h.stepped.at _ _ refl tt))))

mutual
  stmts_same : (s : Scope) (ss : d.StmtsDraft) → Same Any (stmts_tree s (stored.stmts ss)) (stmts_tree s ss)
  stmts_same s d.no_stmts = tt
  stmts_same s (d.and_stmt ss x) = same_bind Any Any _ _ _ _ (stmts_same s ss) (λ _ _ _. same_bind Any Any _ _ _ _ (stmt_same s x) (λ _ _ _. tt))

  stmt_same : (s : Scope) (x : d.StmtDraft) → Same Any (stmt_tree s (stored.stmt x)) (stmt_tree s x)
  stmt_same s (d.for_loop h body) = same_bind Any Any _ _ _ _ (head_same s h) (λ _ _ _. same_bind Any Any _ _ _ _ (stmts_same (with_number true s h.iterator.name) body) (λ _ _ _. tt))
  stmt_same s (d.if_cond at c body other) =
      same_bind Any Any _ _ _ _ (cond_same s c) (λ _ _ _. same_bind Any Any _ _ _ _ (stmts_same s body) (λ _ _ _. same_bind Any Any _ _ _ _ (stmts_same s other) (λ _ _ _. tt)))
  stmt_same s (d.assign w subs op v) =
      same_bind Any Any _ _ _ _ (array_same s w.at w.name true (length (map stored.ix subs)) (length subs) (length-map subs stored.ix)) (λ _ _ _.
      same_bind Any Any _ _ _ _ (ixs_same s subs) (λ _ _ _. same_bind Any Any _ _ _ _ (value_same s v) (λ _ _ _. tt)))
  stmt_same s (d.block ls body) =
      same_bind SameScope Any _ _ (λ r. stmts_tree r.1 (stored.stmts body) >>= _) (λ r. stmts_tree r.1 body >>= _) (locals_same s ls) (λ a b e.
      same_bind Any Any _ _ _ _ (subst (λ u. Same Any (stmts_tree a.1 (stored.stmts body)) (stmts_tree u body)) e (stmts_same a.1 body)) (λ _ _ _. tt))

-- ---- The text

pub pragmas_same : (s t : Scope) → AreAlike s t → (earlier : List Name) (ps : List d.PragmaDraft) → Same Any (pragmas_tree s earlier (map stored.pragma ps)) (pragmas_tree t earlier ps)
pragmas_same s t h earlier [] = tt
pragmas_same s t h earlier (d.range w low_at low high ∷ ps) =
    same_allowed Any (why_ranged s earlier w.name (thing_of s w.name)) (why_ranged t earlier w.name (thing_of t w.name)) w.at _ _
    (ranged_why s t earlier w.name (thing_of s w.name) (thing_of t w.name) h.has_prelude (h.kinds w.name)) (pragmas_same s t h (w.name ∷ earlier) ps)
pragmas_same s t h earlier (d.context at cs ∷ ps) =
    same_bind Any Any _ _ _ _ (same_each stored.compare (compare_tree s) (compare_tree t) (compare_same s t h) cs) (λ _ _ _.
    same_bind Any Any _ _ _ _ (pragmas_same s t h earlier ps) (λ _ _ _. tt))

decl_same : (s : Scope) (k : d.DeclDraft) → Same Any (decl_tree s (stored.decl k)) (decl_tree s k)
decl_same s k = same_allowed Any (why_declared s false k.word.name) (why_declared s false k.word.name) k.word.at _ _ refl (same_bind Any Any _ _ _ _ (ixs_same s k.extents) (λ _ _ _. tt))

range_stored : (w : Name) (ps : List d.PragmaDraft) → range_of w (map stored.pragma ps) ≡ option_map (λ r. (stored.bound r.0, stored.bound r.1)) (range_of w ps)
range_stored w [] = refl
range_stored w (d.range v low_at low high ∷ ps) = by (same v.name w) (range_stored w ps)
  where
    by : (b : Bool) → range_of w (map stored.pragma ps) ≡ option_map (λ r. (stored.bound r.0, stored.bound r.1)) (range_of w ps)
        → cond b (Some (stored.bound low, stored.bound high)) (range_of w (map stored.pragma ps)) ≡ option_map (λ r. (stored.bound r.0, stored.bound r.1)) (cond b (Some (low, high)) (range_of w ps))
    by true e = refl
    by false e = e
range_stored w (d.context at cs ∷ ps) = range_stored w ps

param_same : (s : Scope) (ps : List d.PragmaDraft) (q : d.ParamDraft) → Same Any (param_tree s (map stored.pragma ps) (stored.param q)) (param_tree s ps q)
param_same s ps (d.number_param w) =
    same_allowed Any (why_declared s false w.name) (why_declared s false w.name) w.at _ _ refl
    (subst (λ o. Same Any (number_tree w.at w.name o) (number_tree w.at w.name (range_of w.name ps))) (sym (range_stored w.name ps)) (of_range (range_of w.name ps)))
  where
    of_range : (o : Option (ℤ × ℤ)) → Same Any (number_tree w.at w.name (option_map (λ r. (stored.bound r.0, stored.bound r.1)) o)) (number_tree w.at w.name o)
    of_range None = refl
    of_range (Some r) = tt
param_same s ps (d.array_param k) = same_bind Any Any _ _ _ _ (decl_same s k) (λ _ _ _. tt)

decl_scope : (s : Scope) (k : d.DeclDraft) → with_array s k.word.name k.role (length (map stored.ix k.extents)) ≡ with_array s k.word.name k.role (length k.extents)
decl_scope s k = ap (with_array s k.word.name k.role) (length-map k.extents stored.ix)

param_scope : (s : Scope) (q : d.ParamDraft) → with_param s (stored.param q) ≡ with_param s q
param_scope s (d.number_param w) = refl
param_scope s (d.array_param k) = decl_scope s k

pub params_scope : (s : Scope) (qs : List d.ParamDraft) → with_params s (map stored.param qs) ≡ with_params s qs
params_scope s [] = refl
params_scope s (q ∷ qs) = ap (λ u. with_params u (map stored.param qs)) (param_scope s q) ∙ params_scope (with_param s q) qs

pub params_same : (s : Scope) (ps : List d.PragmaDraft) (qs : List d.ParamDraft) → Same Any (params_tree s (map stored.pragma ps) (map stored.param qs)) (params_tree s ps qs)
params_same s ps [] = tt
params_same s ps (q ∷ qs) =
    same_bind Any Any _ _ _ _ (param_same s ps q) (λ _ _ _.
    same_bind Any Any (params_tree (with_param s (stored.param q)) (map stored.pragma ps) (map stored.param qs)) (params_tree (with_param s q) ps qs) _ _
    (subst (λ u. Same Any (params_tree u (map stored.pragma ps) (map stored.param qs)) (params_tree (with_param s q) ps qs)) (sym (param_scope s q)) (params_same (with_param s q) ps qs)) (λ _ _ _. tt))

temps_same : (s : Scope) (ds : List d.DeclDraft) → Same SameScope (temps_tree s (map stored.decl ds)) (temps_tree s ds)
temps_same s [] = refl
temps_same s (k ∷ ds) =
    same_bind Any SameScope _ _ _ _ (decl_same s k) (λ _ _ _.
    same_bind SameScope SameScope (temps_tree (with_array s k.word.name k.role (length (map stored.ix k.extents))) (map stored.decl ds)) (temps_tree (with_array s k.word.name k.role (length k.extents)) ds) _ _
    (subst (λ u. Same SameScope (temps_tree u (map stored.decl ds)) (temps_tree (with_array s k.word.name k.role (length k.extents)) ds)) (sym (decl_scope s k)) (temps_same (with_array s k.word.name k.role (length k.extents)) ds)) (λ _ _ e. e))

-- the tree of a text whose parameters make this scope
abbrev pub tree_inside : Scope → d.TextDraft → Checked Program
tree_inside inside c =
    pragmas_tree inside [] c.pragmas >>= (λ conditions.
    allowed (function_why inside c.function.name) c.function.at (
    params_tree (outermost c) c.pragmas c.params >>= (λ params.
    temps_tree inside c.temps >>= (λ temps.
    stmts_tree temps.1 c.body >>= (λ body.
    Ok (record { name = c.function.name; params = params; context = conditions; temps = temps.0; body = body; prelude = c.has_prelude }))))))

inside_same : (s : Scope) (c : d.TextDraft) → Same Any (tree_inside s (stored.text c)) (tree_inside s c)
inside_same s c =
    same_bind Any Any _ _ _ _ (pragmas_same s s (itself s) [] c.pragmas) (λ _ _ _.
    same_allowed Any (function_why s c.function.name) (function_why s c.function.name) c.function.at _ _ refl
    (same_bind Any Any _ _ _ _ (params_same (outermost c) c.pragmas c.params) (λ _ _ _.
    same_bind SameScope Any _ _ _ _ (temps_same s c.temps) (λ a b e.
    same_bind Any Any (stmts_tree a.1 (stored.stmts c.body)) (stmts_tree b.1 c.body) _ _
    (subst (λ u. Same Any (stmts_tree a.1 (stored.stmts c.body)) (stmts_tree u c.body)) e (stmts_same a.1 c.body)) (λ _ _ _. tt)))))

-- a text is refused as it is with its numbers cut
pub program_same : (c : d.TextDraft) → Same Any (program_tree (stored.text c)) (program_tree c)
program_same c = subst (λ u. Same Any (tree_inside u (stored.text c)) (program_tree c)) (sym (params_scope (outermost c) c.params)) (inside_same (with_params (outermost c) c.params) c)
