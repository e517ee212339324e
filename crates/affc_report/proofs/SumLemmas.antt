-- A form's text is what is written term by term.
use Rattle.std.proofs.Common.{◌≡◌, ◌∙◌, ℕ, suc, ℤ, Bool, true, false, List, [], ◌∷◌, ◌++◌, length, take, drop, map, codes, decimal, refl, sym, ap, append_assoc}
use Rattle.std.specs.List.{drop-map}
use Rattle.affc_nest.specs.declared.nest.Entry.{Entry}
use Rattle.affc_rows.specs.Forms.{Affine}
use Rattle.affc_grammar.specs.Grammar.{Name}
use Rattle.affc_quast.specs.declared.quast.Quast.{Quast}
use Rattle.affc_quast.specs.Seen.{seen}
use Rattle.affc_quast.specs.Sources.{loads_in}
use Rattle.affc_quast.specs.Trees.{Tree}
use Rattle.affc_schedtext.specs.Outline.{numbered_names}
use Rattle.affc_schedtext.specs.declared.outline.Outline.{Outline}
use Rattle.affc_report.specs.Forms.{Term, is_there, leading, more_text, form_text, constant_behind, terms_of, named_form, row_text}
use Rattle.affc_report.specs.Sums.{begun_by, begun_by_all, term_text, terms_text, end_text, numbered_terms}
use Rattle.affc_report.specs.Trees.{tree_form, loads_text, statements_text}

-- a term that is written stays written
all_begun : (ts : List Term) → begun_by_all true ts ≡ true
all_begun [] = refl
all_begun ((c, w) ∷ ts) = all_begun ts

more : (ts : List Term) (constant : ℤ) → more_text ts constant ≡ terms_text true ts ++ constant_behind constant
more [] constant = refl
more ((c, w) ∷ ts) constant = ap (λ (xs : List ℕ). term_text true c w ++ xs) (more ts constant) ∙ sym (append_assoc (term_text true c w) (terms_text true ts) (constant_behind constant))

behind_first : (text : List ℕ) (ts : List Term) (constant : ℤ) → text ++ more_text ts constant ≡ (text ++ terms_text true ts) ++ end_text (begun_by_all true ts) constant
behind_first text ts constant =
    ap (λ (xs : List ℕ). text ++ xs) (more ts constant)
    ∙ sym (append_assoc text (terms_text true ts) (constant_behind constant))
    ∙ ap (λ (b : Bool). (text ++ terms_text true ts) ++ end_text b constant) (sym (all_begun ts))

by_first : (b : Bool) (c : ℤ) (w : Name) (ts : List Term) (constant : ℤ) → is_there c ≡ b
    → form_text ts constant ≡ terms_text false ts ++ end_text (begun_by_all false ts) constant
    → form_text ((c, w) ∷ ts) constant ≡ terms_text false ((c, w) ∷ ts) ++ end_text (begun_by_all false ((c, w) ∷ ts)) constant
by_first true c w ts constant e more = rw e (behind_first (leading c w) ts constant)
by_first false c w ts constant e more = rw e more

form_is : (ts : List Term) (constant : ℤ) → form_text ts constant ≡ terms_text false ts ++ end_text (begun_by_all false ts) constant
form_is [] constant = refl
form_is ((c, w) ∷ ts) constant = by_first (is_there c) c w ts constant refl (form_is ts constant)

-- ---- Terms in two parts

begun_joined : (b : Bool) (xs ys : List Term) → begun_by_all b (xs ++ ys) ≡ begun_by_all (begun_by_all b xs) ys
begun_joined b [] ys = refl
begun_joined b ((c, w) ∷ xs) ys = begun_joined (begun_by b c) xs ys

text_joined : (b : Bool) (xs ys : List Term) → terms_text b (xs ++ ys) ≡ terms_text b xs ++ terms_text (begun_by_all b xs) ys
text_joined b [] ys = refl
text_joined b ((c, w) ∷ xs) ys = ap (λ (zs : List ℕ). term_text b c w ++ zs) (text_joined (begun_by b c) xs ys) ∙ sym (append_assoc (term_text b c w) (terms_text (begun_by b c) xs) (terms_text (begun_by_all (begun_by b c) xs) ys))

by_numbers : (letter : List ℕ) (n : ℕ) (cs : List ℤ) → terms_of cs (numbered_names letter n (length cs)) ≡ numbered_terms letter n cs
by_numbers letter n [] = refl
by_numbers letter n (c ∷ cs) = ap (λ (ts : List Term). (c, letter ++ decimal n) ∷ ts) (by_numbers letter (suc n) cs)

-- Terms and a constant, behind what is written.
behind : (out : List ℕ) (ts : List Term) (constant : ℤ) → (out ++ terms_text false ts) ++ end_text (begun_by_all false ts) constant ≡ out ++ form_text ts constant
behind out ts constant = append_assoc out (terms_text false ts) (end_text (begun_by_all false ts) constant) ∙ ap (λ (xs : List ℕ). out ++ xs) (sym (form_is ts constant))

-- A form over names, behind what is written.
pub named : (out : List ℕ) (ws : List Name) (f : Affine)
    → (out ++ terms_text false (terms_of f.coefs ws)) ++ end_text (begun_by_all false (terms_of f.coefs ws)) f.constant ≡ out ++ named_form ws f
named out ws f = behind out (terms_of f.coefs ws) f.constant

-- A form over subscripts, behind what is written.
pub subscripted : (out : List ℕ) (f : Affine)
    → (out ++ terms_text false (numbered_terms (codes "x") 0 f.coefs)) ++ end_text (begun_by_all false (numbered_terms (codes "x") 0 f.coefs)) f.constant ≡ out ++ row_text f
subscripted out f =
    behind out (numbered_terms (codes "x") 0 f.coefs) f.constant
    ∙ ap (λ (ts : List Term). out ++ form_text ts f.constant) (sym (by_numbers (codes "x") 0 f.coefs))

-- three lists of terms one after the other, and the constant
three : (a b c : List Term) (constant : ℤ)
    → form_text ((a ++ b) ++ c) constant
    ≡ ((terms_text false a ++ terms_text (begun_by_all false a) b) ++ terms_text (begun_by_all (begun_by_all false a) b) c) ++ end_text (begun_by_all (begun_by_all (begun_by_all false a) b) c) constant
three a b c constant =
    let begun = begun_by_all (begun_by_all false a) b in
    let two : begun_by_all false (a ++ b) ≡ begun = begun_joined false a b in
    let both = terms_text false a ++ terms_text (begun_by_all false a) b in
    let all : begun_by_all false ((a ++ b) ++ c) ≡ begun_by_all begun c = begun_joined false (a ++ b) c ∙ ap (λ (d : Bool). begun_by_all d c) two in
    let text : terms_text false ((a ++ b) ++ c) ≡ both ++ terms_text begun c
    = text_joined false (a ++ b) c ∙ ap (λ (xs : List ℕ). xs ++ terms_text (begun_by_all false (a ++ b)) c) (text_joined false a b) ∙ ap (λ (d : Bool). both ++ terms_text d c) two in
    form_is ((a ++ b) ++ c) constant
    ∙ ap (λ (xs : List ℕ). xs ++ end_text (begun_by_all false ((a ++ b) ++ c)) constant) text
    ∙ ap (λ (d : Bool). (both ++ terms_text begun c) ++ end_text d constant) all

abbrev inner : (parameters iterators : List Name) → Affine → List Term
inner ps is f = terms_of (take (length is) (drop (length ps) f.coefs)) is

abbrev outer : (parameters : List Name) → Affine → List Term
outer ps f = terms_of (take (length ps) f.coefs) ps

abbrev last : (parameters iterators : List Name) → Affine → List Term
last ps is f = numbered_terms (codes "q") 0 (drop (length is) (drop (length ps) f.coefs))

-- A form of a tree, behind what is written.
pub written : (out : List ℕ) (ps is : List Name) (f : Affine)
    → (((out ++ terms_text false (inner ps is f)) ++ terms_text (begun_by_all false (inner ps is f)) (outer ps f))
    ++ terms_text (begun_by_all (begun_by_all false (inner ps is f)) (outer ps f)) (last ps is f))
    ++ end_text (begun_by_all (begun_by_all (begun_by_all false (inner ps is f)) (outer ps f)) (last ps is f)) f.constant
    ≡ out ++ tree_form ps is f
written out ps is f =
    let a = inner ps is f in
    let b = outer ps f in
    let c = last ps is f in
    let s = terms_text false a in
    let t = terms_text (begun_by_all false a) b in
    let u = terms_text (begun_by_all (begun_by_all false a) b) c in
    let v = end_text (begun_by_all (begun_by_all (begun_by_all false a) b) c) f.constant in
    let same : form_text ((a ++ b) ++ c) f.constant ≡ tree_form ps is f
    = ap (λ (ts : List Term). form_text ((a ++ b) ++ ts) f.constant) (sym (by_numbers (codes "q") 0 (drop (length is) (drop (length ps) f.coefs)))) in
    ap (λ (xs : List ℕ). (xs ++ u) ++ v) (append_assoc out s t)
    ∙ ap (λ (xs : List ℕ). xs ++ v) (append_assoc out (s ++ t) u)
    ∙ append_assoc out ((s ++ t) ++ u) v
    ∙ ap (λ (xs : List ℕ). out ++ xs) (sym (three a b c f.constant) ∙ same)

-- ---- Trees

-- the loads of a statement, and behind them those of the others
pub loads_written : (o : Outline) (s : ℕ) (e : Entry) (es : List Entry) (trees : List Quast) (out : List ℕ)
    → (out ++ loads_text o s 0 (take (loads_in e) e.accesses) (map seen trees)) ++ statements_text o (suc s) es (map seen (drop (loads_in e) trees)) ≡ out ++ statements_text o s (e ∷ es) (map seen trees)
loads_written o s e es trees out =
    ap (λ (ts : List Tree). (out ++ loads_text o s 0 (take (loads_in e) e.accesses) (map seen trees)) ++ statements_text o (suc s) es ts) (sym (drop-map seen (loads_in e) trees))
    ∙ append_assoc out (loads_text o s 0 (take (loads_in e) e.accesses) (map seen trees)) (statements_text o (suc s) es (drop (loads_in e) (map seen trees)))
