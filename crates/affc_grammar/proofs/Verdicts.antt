-- Verdicts are what the definitions say.
use Rattle.std.proofs.Common.{◌≡◌, ℕ, ◌+◌, ◌-◌, Bool, true, false, cond, nat_le, List, [], ◌∷◌, ◌++◌, length, Option, Some, None, Result, Ok, Err, refl, ap, ◌∙◌, subst, ◌⊎◌, inl, inr, arith, length-append}
use Rattle.affc_ast.specs.declared.tree.Program.{Program}
use Rattle.affc_grammar.specs.declared.fault.NameWhy.{NameWhy}
use Rattle.affc_grammar.specs.declared.fault.LimitName.{LimitName}
use Rattle.affc_grammar.specs.declared.fault.LimitName.TheVariants.{Tokens, Run, Depth, Items}
use Rattle.affc_grammar.specs.Grammar.{Symbol, Text, text_symbols, StopsAt}
use Rattle.affc_grammar.specs.Draft.{text_draft}
use Rattle.affc_grammar.specs.Limits.{Limits, limits_of, Passed, passed_at, nearer, least, shape_passed, tokens_past, count_token, count_run, count_open, count_item}
use Rattle.affc_grammar.specs.Reads.{Derives, TextFault, name_refused, not_affine, limit_passed, tree_of, has_prelude}
use Rattle.affc_grammar.specs.Reader.{At, Deep, Read}
use Rattle.affc_grammar.specs.Reading.{read_text}
use Rattle.affc_grammar.specs.Verdict.{Verdict, reads, syntax, name, product, limit, of_tree, of_read, of_shape, verdict}
use Rattle.affc_grammar.proofs.Texts.{within_limit, enough_room, text_read, text_spelled, stops_at}

-- ---- No limit is passed

both_empty : {A : Type 0} (xs ys : List A) → xs ++ ys ≡ [] → (xs ≡ []) × (ys ≡ [])
both_empty [] ys e = (refl, e)
both_empty (x ∷ xs) ys e = absurd (cc)

none_mapped : (which : LimitName) (places : List ℕ) → passed_at which places ≡ [] → places ≡ []
none_mapped which [] e = refl
none_mapped which (p ∷ ps) e = absurd (cc)

-- the open brackets keep their limit where no limit on shape is passed
within_depth : (limits : Limits) (ss : List Symbol) → shape_passed limits ss ≡ [] → tokens_past count_open limits.depth 0 0 ss ≡ []
within_depth limits ss e =
    let a = passed_at Tokens (tokens_past count_token limits.tokens 0 0 ss) in
    let b = passed_at Run (tokens_past count_run limits.run 0 0 ss) in
    let c = passed_at Depth (tokens_past count_open limits.depth 0 0 ss) in
    let d = passed_at Items (tokens_past count_item limits.items 0 0 ss) in
    none_mapped Depth (tokens_past count_open limits.depth 0 0 ss) (both_empty (a ++ b) c (both_empty ((a ++ b) ++ c) d e).0).1

pub not_deep : (limits : Limits) (ss : List Symbol) → shape_passed limits ss ≡ [] → read_text limits.depth ss ≡ Err Deep → ⊥
not_deep limits ss e h = enough_room limits.depth ss (within_limit limits.depth ss (within_depth limits ss e)) h

some_nearer : (p : Passed) (o : Option Passed) → nearer p o ≡ None → ⊥
some_nearer p None e = cc
some_nearer p (Some q) e = at (nat_le p.at q.at) e
  where
    at : (b : Bool) → cond b (Some p) (Some q) ≡ None → ⊥
    at true e = cc
    at false e = cc

none_least : (ps : List Passed) → least ps ≡ None → ps ≡ []
none_least [] e = refl
none_least (p ∷ ps) e = absurd (some_nearer p (least ps) e)

-- ---- Each verdict

same_program : (a b : Program) → reads a ≡ reads b → a ≡ b
same_program a b e = cc

tree_reads : (r : Result Program TextFault) (tree : Program) → of_tree r ≡ reads tree → r ≡ Ok tree
tree_reads (Ok a) tree e = ap Ok (same_program a tree e)
tree_reads (Err (name_refused r)) tree e = absurd (cc)
tree_reads (Err (not_affine at)) tree e = absurd (cc)
tree_reads (Err (limit_passed p)) tree e = absurd (cc)

tree_names : (r : Result Program TextFault) (at : ℕ) (why : NameWhy) → of_tree r ≡ name at why → r ≡ Err (name_refused (record { at = at; why = why }))
tree_names (Ok a) at why e = absurd (cc)
tree_names (Err (name_refused r)) at why e =
    let places : r.at ≡ at = cc in
    let reasons : r.why ≡ why = cc in
    (λ i. Err (name_refused (record { at = places i; why = reasons i })))
tree_names (Err (not_affine n)) at why e = absurd (cc)
tree_names (Err (limit_passed p)) at why e = absurd (cc)

tree_product : (r : Result Program TextFault) (at : ℕ) → of_tree r ≡ product at → r ≡ Err (not_affine at)
tree_product (Ok a) at e = absurd (cc)
tree_product (Err (name_refused r)) at e = absurd (cc)
tree_product (Err (not_affine n)) at e = let same : n ≡ at = cc in (λ i. Err (not_affine (same i)))
tree_product (Err (limit_passed p)) at e = absurd (cc)

tree_limit : (r : Result Program TextFault) (at : ℕ) (which : LimitName) → of_tree r ≡ limit at which → r ≡ Err (limit_passed (record { at = at; which = which }))
tree_limit (Ok a) at which e = absurd (cc)
tree_limit (Err (name_refused r)) at which e = absurd (cc)
tree_limit (Err (not_affine n)) at which e = absurd (cc)
tree_limit (Err (limit_passed p)) at which e =
    let places : p.at ≡ at = cc in
    let names : p.which ≡ which = cc in
    (λ i. Err (limit_passed (record { at = places i; which = names i })))

no_syntax : (r : Result Program TextFault) (n : ℕ) → of_tree r ≡ syntax n → ⊥
no_syntax (Ok a) n e = cc
no_syntax (Err (name_refused r)) n e = cc
no_syntax (Err (not_affine m)) n e = cc
no_syntax (Err (limit_passed p)) n e = cc

-- a verdict other than on syntax and shape is on the one text that is spelled so
abbrev Judged : (limits : Limits) (ss : List Symbol) → Verdict → Type 0
Judged limits ss v = (c : Text) × (ss ≡ text_symbols c) × (of_tree (tree_of limits (text_draft c)) ≡ v)

module _ (limits : Limits) (ss : List Symbol) where
  read_case : (shape : shape_passed limits ss ≡ []) (r : Read Symbol Text) → read_text limits.depth ss ≡ r → (v : Verdict) → of_read limits (length ss) r ≡ v → Judged limits ss v ⊎ ((rest : List Symbol) × (read_text limits.depth ss ≡ Err (At rest)) × (syntax (length ss - length rest) ≡ v))
  read_case shape (Ok x) q v e = inl (x.0, text_spelled limits.depth ss x.0 x.1 q, e)
  read_case shape (Err (At rest)) q v e = inr (rest, q, e)
  read_case shape (Err Deep) q v e = absurd (not_deep limits ss shape q)

  shape_case : (o : Option Passed) → least (shape_passed limits ss) ≡ o → (v : Verdict) → of_shape limits ss o ≡ v
      → ((p : Passed) × (least (shape_passed limits ss) ≡ Some p) × (limit p.at p.which ≡ v)) ⊎ ((shape_passed limits ss ≡ []) × (of_read limits (length ss) (read_text limits.depth ss) ≡ v))
  shape_case None q v e = inr (none_least (shape_passed limits ss) q, e)
  shape_case (Some p) q v e = inl (p, q, e)

abbrev its_limits : List Symbol → Limits
its_limits ss = limits_of (has_prelude ss)

no_limit_reads : (p : Passed) (tree : Program) → limit p.at p.which ≡ reads tree → ⊥
no_limit_reads p tree e = cc

pub reads_derives : (ss : List Symbol) (tree : Program) → verdict ss ≡ reads tree → Derives (its_limits ss) ss tree
reads_derives ss tree e = shaped (shape_case (its_limits ss) ss (least (shape_passed (its_limits ss) ss)) refl (reads tree) e)
  where
    read : (shape_passed (its_limits ss) ss ≡ []) → Judged (its_limits ss) ss (reads tree) ⊎ ((rest : List Symbol) × (read_text (its_limits ss).depth ss ≡ Err (At rest)) × (syntax (length ss - length rest) ≡ reads tree)) → Derives (its_limits ss) ss tree
    read shape (inl k) = record { shape = shape; written = k.0; spelled = k.1; its_tree = tree_reads (tree_of (its_limits ss) (text_draft k.0)) tree k.2 }
    read shape (inr k) = absurd (let no_text = k.2 in cc)

    shaped : ((p : Passed) × (least (shape_passed (its_limits ss) ss) ≡ Some p) × (limit p.at p.which ≡ reads tree)) ⊎ ((shape_passed (its_limits ss) ss ≡ []) × (of_read (its_limits ss) (length ss) (read_text (its_limits ss).depth ss) ≡ reads tree)) → Derives (its_limits ss) ss tree
    shaped (inl k) = absurd (no_limit_reads k.0 tree k.2)
    shaped (inr k) = read k.0 (read_case (its_limits ss) ss k.0 (read_text (its_limits ss).depth ss) refl (reads tree) k.1)

-- the verdict on a text that is spelled so, where no limit on shape is passed
spelled_verdict : (limits : Limits) (ss : List Symbol) (c : Text) → shape_passed limits ss ≡ [] → ss ≡ text_symbols c → of_shape limits ss (least (shape_passed limits ss)) ≡ of_tree (tree_of limits (text_draft c))
spelled_verdict limits ss c shape e =
    ap (λ ps. of_shape limits ss (least ps)) shape
    ∙ ap (of_read limits (length ss)) (ap (read_text limits.depth) e ∙ text_read c limits.depth (within_limit limits.depth (text_symbols c) (subst (λ l. tokens_past count_open limits.depth 0 0 l ≡ []) e (within_depth limits ss shape))))

pub derives_reads : (ss : List Symbol) (tree : Program) → Derives (its_limits ss) ss tree → verdict ss ≡ reads tree
derives_reads ss tree d = spelled_verdict (its_limits ss) ss d.written d.shape d.spelled ∙ ap of_tree d.its_tree

place_of : (ss rest : List Symbol) (n : ℕ) → StopsAt ss rest → syntax (length ss - length rest) ≡ syntax n → n + length rest ≡ length ss
place_of ss rest n s e =
    let same : length ss - length rest ≡ n = cc in
    omega (arith, ap length s.split, length-append s.before rest)

no_limit_syntax : (p : Passed) (n : ℕ) → limit p.at p.which ≡ syntax n → ⊥
no_limit_syntax p n e = cc

pub syntax_stops : (ss : List Symbol) (n : ℕ) → verdict ss ≡ syntax n → (rest : List Symbol) × StopsAt ss rest × (n + length rest ≡ length ss)
syntax_stops ss n e = shaped (shape_case (its_limits ss) ss (least (shape_passed (its_limits ss) ss)) refl (syntax n) e)
  where
    read : Judged (its_limits ss) ss (syntax n) ⊎ ((rest : List Symbol) × (read_text (its_limits ss).depth ss ≡ Err (At rest)) × (syntax (length ss - length rest) ≡ syntax n)) → (rest : List Symbol) × StopsAt ss rest × (n + length rest ≡ length ss)
    read (inl k) = absurd (no_syntax (tree_of (its_limits ss) (text_draft k.0)) n k.2)
    read (inr k) = let s = stops_at (its_limits ss).depth ss k.0 k.1 in (k.0, s, place_of ss k.0 n s k.2)

    shaped : ((p : Passed) × (least (shape_passed (its_limits ss) ss) ≡ Some p) × (limit p.at p.which ≡ syntax n)) ⊎ ((shape_passed (its_limits ss) ss ≡ []) × (of_read (its_limits ss) (length ss) (read_text (its_limits ss).depth ss) ≡ syntax n)) → (rest : List Symbol) × StopsAt ss rest × (n + length rest ≡ length ss)
    shaped (inl k) = absurd (no_limit_syntax k.0 n k.2)
    shaped (inr k) = read (read_case (its_limits ss) ss k.0 (read_text (its_limits ss).depth ss) refl (syntax n) k.1)

no_limit_name : (p : Passed) (at : ℕ) (why : NameWhy) → limit p.at p.which ≡ name at why → ⊥
no_limit_name p at why e = cc

pub name_refused_there : (ss : List Symbol) (at : ℕ) (why : NameWhy) → verdict ss ≡ name at why → (c : Text) × (ss ≡ text_symbols c) × (tree_of (its_limits ss) (text_draft c) ≡ Err (name_refused (record { at = at; why = why })))
name_refused_there ss at why e = shaped (shape_case (its_limits ss) ss (least (shape_passed (its_limits ss) ss)) refl (name at why) e)
  where
    read : Judged (its_limits ss) ss (name at why) ⊎ ((rest : List Symbol) × (read_text (its_limits ss).depth ss ≡ Err (At rest)) × (syntax (length ss - length rest) ≡ name at why)) → (c : Text) × (ss ≡ text_symbols c) × (tree_of (its_limits ss) (text_draft c) ≡ Err (name_refused (record { at = at; why = why })))
    read (inl k) = (k.0, k.1, tree_names (tree_of (its_limits ss) (text_draft k.0)) at why k.2)
    read (inr k) = absurd (let no_text = k.2 in cc)

    shaped : ((p : Passed) × (least (shape_passed (its_limits ss) ss) ≡ Some p) × (limit p.at p.which ≡ name at why)) ⊎ ((shape_passed (its_limits ss) ss ≡ []) × (of_read (its_limits ss) (length ss) (read_text (its_limits ss).depth ss) ≡ name at why)) → (c : Text) × (ss ≡ text_symbols c) × (tree_of (its_limits ss) (text_draft c) ≡ Err (name_refused (record { at = at; why = why })))
    shaped (inl k) = absurd (no_limit_name k.0 at why k.2)
    shaped (inr k) = read (read_case (its_limits ss) ss k.0 (read_text (its_limits ss).depth ss) refl (name at why) k.1)

no_limit_product : (p : Passed) (at : ℕ) → limit p.at p.which ≡ product at → ⊥
no_limit_product p at e = cc

pub product_there : (ss : List Symbol) (at : ℕ) → verdict ss ≡ product at → (c : Text) × (ss ≡ text_symbols c) × (tree_of (its_limits ss) (text_draft c) ≡ Err (not_affine at))
product_there ss at e = shaped (shape_case (its_limits ss) ss (least (shape_passed (its_limits ss) ss)) refl (product at) e)
  where
    read : Judged (its_limits ss) ss (product at) ⊎ ((rest : List Symbol) × (read_text (its_limits ss).depth ss ≡ Err (At rest)) × (syntax (length ss - length rest) ≡ product at)) → (c : Text) × (ss ≡ text_symbols c) × (tree_of (its_limits ss) (text_draft c) ≡ Err (not_affine at))
    read (inl k) = (k.0, k.1, tree_product (tree_of (its_limits ss) (text_draft k.0)) at k.2)
    read (inr k) = absurd (let no_text = k.2 in cc)

    shaped : ((p : Passed) × (least (shape_passed (its_limits ss) ss) ≡ Some p) × (limit p.at p.which ≡ product at)) ⊎ ((shape_passed (its_limits ss) ss ≡ []) × (of_read (its_limits ss) (length ss) (read_text (its_limits ss).depth ss) ≡ product at)) → (c : Text) × (ss ≡ text_symbols c) × (tree_of (its_limits ss) (text_draft c) ≡ Err (not_affine at))
    shaped (inl k) = absurd (no_limit_product k.0 at k.2)
    shaped (inr k) = read (read_case (its_limits ss) ss k.0 (read_text (its_limits ss).depth ss) refl (product at) k.1)

-- a limit of the tokens, or one of the text where none of those is passed
abbrev pub LimitOf : List Symbol → ℕ → LimitName → Type 0
LimitOf ss at which =
    (least (shape_passed (its_limits ss) ss) ≡ Some (record { at = at; which = which }))
    ⊎ ((shape_passed (its_limits ss) ss ≡ []) × ((c : Text) × (ss ≡ text_symbols c) × (tree_of (its_limits ss) (text_draft c) ≡ Err (limit_passed (record { at = at; which = which })))))

same_passed : (o : Option Passed) (p : Passed) (at : ℕ) (which : LimitName) → o ≡ Some p → limit p.at p.which ≡ limit at which → o ≡ Some (record { at = at; which = which })
same_passed o p at which q e =
    let places : p.at ≡ at = cc in
    let names : p.which ≡ which = cc in
    q ∙ (λ i. Some (record { at = places i; which = names i }))

pub limit_there : (ss : List Symbol) (at : ℕ) (which : LimitName) → verdict ss ≡ limit at which → LimitOf ss at which
limit_there ss at which e = shaped (shape_case (its_limits ss) ss (least (shape_passed (its_limits ss) ss)) refl (limit at which) e)
  where
    read : (shape_passed (its_limits ss) ss ≡ []) → Judged (its_limits ss) ss (limit at which) ⊎ ((rest : List Symbol) × (read_text (its_limits ss).depth ss ≡ Err (At rest)) × (syntax (length ss - length rest) ≡ limit at which)) → LimitOf ss at which
    read shape (inl k) = inr (shape, (k.0, k.1, tree_limit (tree_of (its_limits ss) (text_draft k.0)) at which k.2))
    read shape (inr k) = absurd (let no_text = k.2 in cc)

    shaped : ((p : Passed) × (least (shape_passed (its_limits ss) ss) ≡ Some p) × (limit p.at p.which ≡ limit at which)) ⊎ ((shape_passed (its_limits ss) ss ≡ []) × (of_read (its_limits ss) (length ss) (read_text (its_limits ss).depth ss) ≡ limit at which)) → LimitOf ss at which
    shaped (inl k) = inl (same_passed (least (shape_passed (its_limits ss) ss)) k.0 at which k.1 k.2)
    shaped (inr k) = read k.0 (read_case (its_limits ss) ss k.0 (read_text (its_limits ss).depth ss) refl (limit at which) k.1)
