-- Statements and locals, one after another.
use Rattle.std.proofs.Common.{◌≡◌, ℕ, zero, suc, ◌+◌, ◌<◌, ◌≤◌, true, false, List, [], ◌∷◌, ◌++◌, length, get_or, take, drop, map, Option, Some, None, Ok, Err, refl, sym, ap, ◌∙◌, subst, append_assoc, append-nil, drop-cons, add-one}
use Rattle.affc_ast.specs.declared.tree.Ix.{Ix}
use Rattle.affc_ast.specs.declared.tree.Local.{Local}
use Rattle.affc_ast.specs.declared.tree.Stmt.{Stmt}
use Rattle.affc_grammar.specs.declared.fault.NameWhy.{NameWhy}
use Rattle.affc_grammar.specs.Draft as d
use Rattle.affc_grammar.specs.Names as names
use Rattle.affc_grammar.specs.Names.{Checked, Refusal, Scope, ◌>>=◌, allowed}
use Rattle.affc_syntax.specs.declared.draft.draft.StmtDraft as code
use Rattle.affc_syntax.specs.declared.draft.draft.StmtDraft.TheVariants as s
use Rattle.affc_syntax.specs.declared.draft.draft.LocalDraft as code_local
use Rattle.affc_syntax.specs.declared.draft.draft.HeadDraft as code_head
use Rattle.affc_syntax.specs.declared.draft.draft.CondDraft as code_cond
use Rattle.affc_syntax.proofs.draft.Outs.{stmt-For, stmt-If, stmt-Block}
use Rattle.affc_syntax.specs.draft.Drafts.{stmts_of, stmts_after, stmt, local, head, cond}
use Rattle.affc_names.specs.declared.fault.NameFault.{NameFault}
use Rattle.affc_names.specs.declared.fault.NameFault.TheVariants.{Memory, Refused}
use Rattle.affc_names.specs.Gives.{Fails, Allows}
use Rattle.affc_names.specs.Visible.{without}
use Rattle.affc_names.specs.Locals.{local_tree}
use Rattle.affc_names.specs.Stored as stored
use Rattle.affc_names.proofs.Grown.{no_larger, turn, stops}

drop-suc : {A : Type 0} (n : ℕ) (xs : List A) → drop (suc n) xs ≡ drop 1 (drop n xs)
drop-suc zero xs = refl
drop-suc (suc n) [] = refl
drop-suc (suc n) (x ∷ xs) = drop-suc n xs

-- ---- Statements

abbrev trees_of : Scope → d.StmtsDraft → Checked (List Stmt)
trees_of scope ss = names.stmts_tree scope (stored.stmts ss)

abbrev tree_of : Scope → d.StmtDraft → Checked Stmt
tree_of scope s = names.stmt_tree scope (stored.stmt s)

pub stmts_turn : (scope : Scope) (cs : List code.StmtDraft) (i : ℕ) (c : code.StmtDraft) (done : List Stmt) (t : Stmt) → i < length cs → c ≡ get_or cs i c
    → names.stmts_tree scope (stored.stmts (stmts_of (map stmt (take i cs)))) ≡ Ok done → names.stmt_tree scope (stored.stmt (stmt c)) ≡ Ok t
    → names.stmts_tree scope (stored.stmts (stmts_of (map stmt (take (i + 1) cs)))) ≡ Ok (done ++ t ∷ [])
stmts_turn scope = turn stmt d.no_stmts d.and_stmt stmts_after (λ ss. refl) (λ ss x xs. refl) (trees_of scope) (tree_of scope) (λ ss x. refl)

pub stmts_stops : (scope : Scope) (cs : List code.StmtDraft) (i : ℕ) (c : code.StmtDraft) (done : List Stmt) (fault : NameFault) → i < length cs → c ≡ get_or cs i c
    → names.stmts_tree scope (stored.stmts (stmts_of (map stmt (take i cs)))) ≡ Ok done → Fails fault (names.stmt_tree scope (stored.stmt (stmt c)))
    → Fails fault (names.stmts_tree scope (stored.stmts (stmts_of (map stmt cs))))
stmts_stops scope = stops stmt d.no_stmts d.and_stmt stmts_after (λ ss. refl) (λ ss x xs. refl) (trees_of scope) (tree_of scope) (λ ss x. refl)

-- ---- How many statements there are

abbrev mutual
  pub weights : d.StmtsDraft → ℕ
  weights d.no_stmts = 0
  weights (d.and_stmt ss s) = weights ss + weight s

  pub weight : d.StmtDraft → ℕ
  weight (d.for_loop h body) = 1 + weights body
  weight (d.if_cond at c body other) = 1 + weights body + weights other
  weight (d.assign w subs op v) = 1
  weight (d.block ls body) = 1 + weights body

pub lighter : (cs : List code.StmtDraft) (i : ℕ) (c : code.StmtDraft) → i < length cs → c ≡ get_or cs i c → weight (stmt c) ≤ weights (stmts_of (map stmt cs))
lighter = no_larger stmt d.no_stmts d.and_stmt stmts_after (λ ss. refl) (λ ss x xs. refl) weights weight (λ ss x. refl)

-- ---- Locals

abbrev pub behind : List Local → Checked (List Local × Scope) → Checked (List Local × Scope)
behind done m = m >>= (λ o. Ok (done ++ o.0, o.1))

abbrev answered : Scope → List Local → Checked (List Local × Scope)
answered scope done = Ok (done, scope)

pub locals_end : (done : List Local) (scope : Scope) → behind done (Ok ([], scope)) ≡ Ok (done, scope)
locals_end done scope = ap (answered scope) (append-nil done)

abbrev join_local : List d.LocalDraft → Local × Scope → Checked (List Local × Scope)
join_local ls r = names.locals_tree r.1 ls >>= (λ o. Ok (r.0 ∷ o.0, o.1))

-- a local and those behind it
locals_on : (scope : Scope) (l : d.LocalDraft) (ls : List d.LocalDraft) → names.locals_tree scope (l ∷ ls) ≡ local_tree scope l >>= join_local ls
locals_on scope l ls = by (names.why_declared scope false l.name) (names.ix_tree scope l.value)
  where
    inner : Scope
    inner = names.with_number false scope l.name

    local_of : Ix → Local
    local_of x = record { name = l.name; value = x }

    by : (why : Option NameWhy) (m : Checked Ix)
        → allowed {A = List Local × Scope} why l.at (m >>= (λ x. names.locals_tree inner ls >>= (λ o. Ok (local_of x ∷ o.0, o.1))))
        ≡ allowed {A = Local × Scope} why l.at (m >>= (λ x. Ok (local_of x, inner))) >>= join_local ls
    by (Some why) m = refl
    by None (Err r) = refl
    by None (Ok x) = refl

regrouped : (done : List Local) (t : Local) (m : Checked (List Local × Scope)) → behind done (m >>= (λ o. Ok (t ∷ o.0, o.1))) ≡ behind (done ++ t ∷ []) m
regrouped done t (Err r) = refl
regrouped done t (Ok o) = ap (answered o.1) (sym (append_assoc done (t ∷ []) o.0))

abbrev pub seen_locals : List code_local.LocalDraft → List d.LocalDraft
seen_locals ls = map stored.local (map local ls)

first_local : (cs : List code_local.LocalDraft) (i : ℕ) (c : code_local.LocalDraft) → i < length cs → c ≡ get_or cs i c → seen_locals (drop i cs) ≡ stored.local (local c) ∷ seen_locals (drop (i + 1) cs)
first_local cs i c lt is =
    ap seen_locals (drop-cons cs i c lt)
    ∙ ap (λ x. stored.local (local x) ∷ seen_locals (drop (suc i) cs)) (sym is)
    ∙ ap (λ n. stored.local (local c) ∷ seen_locals (drop n cs)) (sym (add-one i))

pub locals_turn : (scope inner : Scope) (cs : List code_local.LocalDraft) (i : ℕ) (c : code_local.LocalDraft) (done : List Local) (t : Local) → i < length cs → c ≡ get_or cs i c
    → local_tree scope (stored.local (local c)) ≡ Ok (t, inner)
    → behind done (names.locals_tree scope (seen_locals (drop i cs))) ≡ behind (done ++ t ∷ []) (names.locals_tree inner (seen_locals (drop (i + 1) cs)))
locals_turn scope inner cs i c done t lt is here =
    let rest = seen_locals (drop (i + 1) cs) in
    ap (λ l. behind done (names.locals_tree scope l)) (first_local cs i c lt is)
    ∙ ap (behind done) (locals_on scope (stored.local (local c)) rest)
    ∙ ap (λ (m : Checked (Local × Scope)). behind done (m >>= join_local rest)) here
    ∙ regrouped done t (names.locals_tree inner rest)

pub locals_stop : (scope : Scope) (cs : List code_local.LocalDraft) (i : ℕ) (c : code_local.LocalDraft) (done : List Local) (fault : NameFault) → i < length cs → c ≡ get_or cs i c
    → Fails fault (local_tree scope (stored.local (local c))) → Fails fault (behind done (names.locals_tree scope (seen_locals (drop i cs))))
locals_stop scope cs i c done Memory lt is here = tt
locals_stop scope cs i c done (Refused at why) lt is here =
    let rest = seen_locals (drop (i + 1) cs) in
    ap (λ l. behind done (names.locals_tree scope l)) (first_local cs i c lt is)
    ∙ ap (behind done) (locals_on scope (stored.local (local c)) rest)
    ∙ ap (λ (m : Checked (Local × Scope)). behind done (m >>= join_local rest)) here

-- what is left where the locals of a list are visible no longer
abbrev Forgets : ℕ → Scope → Checked (List Local × Scope) → Type 0
Forgets n scope (Ok o) = without n o.1 ≡ scope
Forgets n scope (Err r) = Unit {0}

one_less : (n : ℕ) (scope outer : Scope) (v : names.Visible) → without n scope ≡ record outer { visible = v ∷ outer.visible } → without (suc n) scope ≡ outer
one_less n scope outer v e =
    ap (λ (vs : List names.Visible). with_visible vs) (drop-suc n scope.visible)
    ∙ ap (without 1) e
  where
    with_visible : List names.Visible → Scope
    with_visible vs = record scope { visible = vs }

forgotten : (scope : Scope) (ls : List d.LocalDraft) → Forgets (length ls) scope (names.locals_tree scope ls)
forgotten scope [] = refl
forgotten scope (l ∷ ls) = by (names.why_declared scope false l.name) (names.ix_tree scope l.value) (names.locals_tree inner ls) (forgotten inner ls)
  where
    inner : Scope
    inner = names.with_number false scope l.name

    local_of : Ix → Local
    local_of x = record { name = l.name; value = x }

    by : (why : Option NameWhy) (m : Checked Ix) (n : Checked (List Local × Scope)) → Forgets (length ls) inner n
        → Forgets (suc (length ls)) scope (allowed {A = List Local × Scope} why l.at (m >>= (λ x. n >>= (λ o. Ok (local_of x ∷ o.0, o.1)))))
    by (Some why) m n h = tt
    by None (Err r) n h = tt
    by None (Ok x) (Err r) h = tt
    by None (Ok x) (Ok o) h = one_less (length ls) o.1 scope _ h

pub locals_forgotten : (scope inner after : Scope) (ls : List d.LocalDraft) (done : List Local) (n : ℕ) → names.locals_tree scope ls ≡ Ok (done, inner) → n ≡ length ls → after ≡ inner → without n after ≡ scope
locals_forgotten scope inner after ls done n e count same =
    ap (λ k. without k after) count ∙ ap (without (length ls)) same ∙ subst (Forgets (length ls) scope) e (forgotten scope ls)

-- ---- Names that are visible no longer

pub one_without : (n : ℕ) (scope : Scope) → without 1 (without n scope) ≡ without (n + 1) scope
one_without n scope = sym (ap (λ (vs : List names.Visible). with_visible vs) (ap (λ k. drop k scope.visible) (add-one n) ∙ drop-suc n scope.visible))
  where
    with_visible : List names.Visible → Scope
    with_visible vs = record scope { visible = vs }

-- ---- The head of a `for`

abbrev head_of : d.HeadDraft → Option NameWhy → Checked Ix → Option NameWhy → Checked Ix → Option NameWhy → Checked (Ix × Ix)
head_of h declared low tested high stepped =
    allowed {A = Ix × Ix} declared h.iterator.at (low >>= (λ a. allowed {A = Ix × Ix} tested h.tested.at (high >>= (λ b. allowed {A = Ix × Ix} stepped h.stepped.at (Ok (a, b))))))

abbrev refusal : NameWhy → ℕ → Checked (Ix × Ix)
refusal why n = Err (record { at = n; why = why })

module _ (scope : Scope) (h : d.HeadDraft) (low : Ix) (declared : names.why_declared scope true h.iterator.name ≡ None) (low_is : names.ix_tree scope h.low ≡ Ok low) where
  at_tested : names.head_tree scope h ≡ head_of h None (Ok low) (names.why_repeated scope h.iterator.name h.tested.name) (names.ix_tree scope h.high) (names.why_repeated scope h.iterator.name h.stepped.name)
  at_tested =
      ap (λ o. head_of h o (names.ix_tree scope h.low) (names.why_repeated scope h.iterator.name h.tested.name) (names.ix_tree scope h.high) (names.why_repeated scope h.iterator.name h.stepped.name)) declared
      ∙ ap (λ m. head_of h None m (names.why_repeated scope h.iterator.name h.tested.name) (names.ix_tree scope h.high) (names.why_repeated scope h.iterator.name h.stepped.name)) low_is

  pub tested_refused : (f : NameFault) → Allows (Err f) (names.why_repeated scope h.iterator.name h.tested.name) h.tested.at → Fails f (names.head_tree scope h)
  tested_refused Memory a = tt
  tested_refused (Refused n w) a =
      at_tested ∙ ap (λ o. head_of h None (Ok low) o (names.ix_tree scope h.high) (names.why_repeated scope h.iterator.name h.stepped.name)) a.0 ∙ ap (refusal w) (sym a.1)

  module _ (tested : names.why_repeated scope h.iterator.name h.tested.name ≡ None) where
    at_high : names.head_tree scope h ≡ head_of h None (Ok low) None (names.ix_tree scope h.high) (names.why_repeated scope h.iterator.name h.stepped.name)
    at_high = at_tested ∙ ap (λ o. head_of h None (Ok low) o (names.ix_tree scope h.high) (names.why_repeated scope h.iterator.name h.stepped.name)) tested

    pub high_refused : (f : NameFault) → Fails f (names.ix_tree scope h.high) → Fails f (names.head_tree scope h)
    high_refused Memory a = tt
    high_refused (Refused n w) a = at_high ∙ ap (λ m. head_of h None (Ok low) None m (names.why_repeated scope h.iterator.name h.stepped.name)) a

    pub stepped_refused : (high : Ix) → names.ix_tree scope h.high ≡ Ok high → (f : NameFault) → Allows (Err f) (names.why_repeated scope h.iterator.name h.stepped.name) h.stepped.at → Fails f (names.head_tree scope h)
    stepped_refused high high_is Memory a = tt
    stepped_refused high high_is (Refused n w) a =
        at_high ∙ ap (λ m. head_of h None (Ok low) None m (names.why_repeated scope h.iterator.name h.stepped.name)) high_is
        ∙ ap (λ o. head_of h None (Ok low) None (Ok high) o) a.0 ∙ ap (refusal w) (sym a.1)

-- ---- A statement by its parts

pub for_is : (x : code.StmtDraft) (h : code_head.HeadDraft) (body slice : List code.StmtDraft) → x ≡ s.For h body → slice ≡ body → stmt x ≡ d.for_loop (head h) (stmts_of (map stmt slice))
for_is x h body slice is same = ap stmt is ∙ stmt-For h body ∙ ap (λ l. d.for_loop (head h) (stmts_of (map stmt l))) (sym same)

pub if_is : (x : code.StmtDraft) (at : ℕ) (k : code_cond.CondDraft) (body slice other others : List code.StmtDraft) → x ≡ s.If at k body other → slice ≡ body → others ≡ other
    → stmt x ≡ d.if_cond at (cond k) (stmts_of (map stmt slice)) (stmts_of (map stmt others))
if_is x at k body slice other others is same alike =
    ap stmt is ∙ stmt-If at k body other ∙ ap (λ l. d.if_cond at (cond k) (stmts_of (map stmt l)) (stmts_of (map stmt other))) (sym same) ∙ ap (λ l. d.if_cond at (cond k) (stmts_of (map stmt slice)) (stmts_of (map stmt l))) (sym alike)

pub block_is : (x : code.StmtDraft) (locals shown : List code_local.LocalDraft) (body slice : List code.StmtDraft) → x ≡ s.Block locals body → shown ≡ locals → slice ≡ body
    → stmt x ≡ d.block (map local shown) (stmts_of (map stmt slice))
block_is x locals shown body slice is same alike = ap stmt is ∙ stmt-Block locals body ∙ ap (λ l. d.block (map local l) (stmts_of (map stmt body))) (sym same) ∙ ap (λ l. d.block (map local shown) (stmts_of (map stmt l))) (sym alike)

abbrev pub answered_stmts : List Stmt → Checked (List Stmt)
answered_stmts l = Ok l
