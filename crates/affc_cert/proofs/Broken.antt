-- Folds whose rows and inverse forms multiply to the identity, and the first of a list that doesn't.
use Rattle.affc_cert.specs.Certificates.{seen}
use Rattle.affc_cert.specs.Drafts.{IsBrokenAt, IsBrokenIn, whole_object}
use Rattle.affc_cert.specs.Refusals.{IsFirstBroken, IsBroken, Refuses, ReadsJson, refusal, verdicts, part_fault, either, first, is_shape, is_number, is_other_version}
use Rattle.affc_cert.specs.Values.{cert_value}
use Rattle.affc_cert.specs.declared.cert.Cert.{Cert}
use Rattle.affc_cert.specs.declared.cert.CertFault.{CertFault}
use Rattle.affc_cert.specs.declared.cert.CertFault.TheVariants as fault
use Rattle.affc_cert.specs.declared.json.FoldFault.TheVariants as FoldFault
use Rattle.affc_cert.specs.declared.layout.Layout.{Layout}
use Rattle.affc_certvalue.proofs.fold.Products.{entry_is_basis}
use Rattle.affc_certvalue.proofs.fold.Unique.{folds_same}
use Rattle.affc_certvalue.specs.fold.Bases.{IsBasis}
use Rattle.affc_certvalue.specs.fold.Drafts.{draft_entry}
use Rattle.affc_certvalue.specs.fold.Entries.{FoldEntry, entry_of}
use Rattle.affc_certvalue.specs.fold.Values.{folds_value}
use Rattle.affc_certvalue.specs.declared.fold.draft.Draft.{Draft}
use Rattle.affc_certvalue.specs.declared.fold.fold.CertFold.{CertFold}
use Rattle.affc_certvalue.specs.proof.Proofs.{steps_of}
use Rattle.affc_certvalue.specs.proof.Values.{proof_value}
use Rattle.affc_cert.specs.tree.Values.{tree_value}
use Rattle.affc_certvalue.specs.Values.{list_of, numbers_value}
use Rattle.affc_quast.specs.Seen.{trees_of}
use Rattle.serde_json.specs.Data.{Data}
use Rattle.serde_json.specs.Find.{get}
use Rattle.serde_json.specs.Read.{read}
use Rattle.std.proofs.Common.{◌≡◌, ℕ, zero, suc, ◌+◌, ◌<◌, Bool, true, false, if◌then◌else◌, codes, append-nil, option_map, IsUtf8, List, [], ◌∷◌, ◌++◌, length, map, Option, Some, None, refl, sym, ap, ap₂, ◌∙◌, subst, inl, inr, arith}
use Rattle.std.proofs.lemmas.Option.{same_Some}
use Rattle.std.specs.Prelude.{slice_get}

before_of : (fs : List CertFold) (ys : List FoldEntry) (j : ℕ) (f : FoldEntry) → j < length fs → slice_get (map entry_of fs ++ ys) j ≡ Some f → IsBasis f
before_of [] ys j f h e = absurd (omega (arith, h))
before_of (g ∷ fs) ys zero f h e = subst IsBasis (same_Some _ _ e) (entry_is_basis g)
before_of (g ∷ fs) ys (suc j) f h e = before_of fs ys j f (omega (arith, h)) e

there_of : (fs : List CertFold) (f : FoldEntry) (ys : List FoldEntry) → slice_get (map entry_of fs ++ f ∷ ys) (length fs) ≡ Some f
there_of [] f ys = refl
there_of (g ∷ fs) f ys = there_of fs f ys

-- the fold behind right ones
pub broken_at : (fs : List CertFold) (all : List FoldEntry) (f : FoldEntry) (ys : List FoldEntry) → map entry_of fs ++ f ∷ ys ≡ all → ¬ (IsBasis f) → IsFirstBroken all (length fs)
broken_at fs all f ys e h =
    record {
      entry = f;
      there = ap (λ es. slice_get es (length fs)) (sym e) ∙ there_of fs f ys;
      broken = h;
      before = λ j g less at. before_of fs (f ∷ ys) j g less (ap (λ es. slice_get es j) e ∙ at);
    }

entries_are_bases : (fs : List CertFold) (k : ℕ) (e : FoldEntry) → slice_get (map entry_of fs) k ≡ Some e → IsBasis e
entries_are_bases [] k e h = absurd (cc)
entries_are_bases (f ∷ fs) zero e h = subst IsBasis (same_Some _ _ h) (entry_is_basis f)
entries_are_bases (f ∷ fs) (suc k) e h = entries_are_bases fs k e h

not_broken : (layout : Layout) (c : Cert) (e : CertFault) → IsBroken layout (cert_value (seen c)) e → ⊥
not_broken layout c e b =
    let same : map entry_of c.folds ≡ b.folds = folds_same (map entry_of c.folds) b.folds (same_Some _ _ b.there) in
    b.first_broken.broken (entries_are_bases c.folds b.number b.first_broken.entry (ap (λ es. slice_get es b.number) same ∙ b.first_broken.there))

pub right_is_not_refused : (layout : Layout) (c : Cert) (e : CertFault) → refusal layout (cert_value (seen c)) ≡ None → Refuses layout (cert_value (seen c)) e → ⊥
right_is_not_refused layout c e right (inl h) = let no : None ≡ Some e = sym right ∙ h in absurd (cc)
right_is_not_refused layout c e right (inr b) = not_broken layout c e b

-- ---- One refusal

-- a fold before the first broken one isn't broken
not_before : (fs : List FoldEntry) (k n : ℕ) → IsFirstBroken fs k → IsFirstBroken fs n → k < n → ⊥
not_before fs k n f g h = f.broken (g.before k f.entry h f.there)

first_once : (fs : List FoldEntry) (k n : ℕ) → IsFirstBroken fs k → IsFirstBroken fs n → k ≡ n
first_once fs k n f g = omega (arith, not_before fs k n f g, not_before fs n k g f)

broken_once : (layout : Layout) (d : Data) (e f : CertFault) → IsBroken layout d e → IsBroken layout d f → e ≡ f
broken_once layout d e f b c =
    let same : c.folds ≡ b.folds = folds_same c.folds b.folds (same_Some _ _ (sym c.there ∙ b.there)) in
    let number : b.number ≡ c.number = first_once b.folds b.number c.number b.first_broken (subst (λ fs. IsFirstBroken fs c.number) same c.first_broken) in
    b.fault ∙ ap (λ n. fault.Shape (1 + length layout.loads + n)) number ∙ sym c.fault

pub one_refusal : (layout : Layout) (d : Data) (e f : CertFault) → Refuses layout d e → Refuses layout d f → e ≡ f
one_refusal layout d e f (inl h) (inl g) = same_Some e f (sym h ∙ g)
one_refusal layout d e f (inl h) (inr c) = let no : Some e ≡ None = sym h ∙ c.else_right in absurd (cc)
one_refusal layout d e f (inr b) (inl g) = let no : None ≡ Some f = sym b.else_right ∙ g in absurd (cc)
one_refusal layout d e f (inr b) (inr c) = broken_once layout d e f b c

-- ---- Drafts

more_folds : (fs : List CertFold) (f : CertFold) (ys : List FoldEntry) → map entry_of (fs ++ f ∷ []) ++ ys ≡ map entry_of fs ++ entry_of f ∷ ys
more_folds [] f ys = refl
more_folds (g ∷ fs) f ys = ap (λ es. entry_of g ∷ es) (more_folds fs f ys)

pub step_more : (fs : List CertFold) (f : CertFold) (d : Draft) (rest ds : List Draft) (all : List FoldEntry) → map entry_of fs ++ map draft_entry ds ≡ all → ds ≡ d ∷ rest → entry_of f ≡ draft_entry d
    → map entry_of (fs ++ f ∷ []) ++ map draft_entry rest ≡ all
step_more fs f d rest ds all e h same =
    more_folds fs f (map draft_entry rest) ∙ ap (λ x. map entry_of fs ++ x ∷ map draft_entry rest) same ∙ ap (λ es. map entry_of fs ++ map draft_entry es) (sym h) ∙ e

pub step_end : (fs : List CertFold) (ds : List Draft) (all : List FoldEntry) → map entry_of fs ++ map draft_entry ds ≡ all → ds ≡ [] → map entry_of fs ≡ all
step_end fs ds all e h = sym (append-nil (map entry_of fs)) ∙ ap (λ es. map entry_of fs ++ map draft_entry es) (sym h) ∙ e

broken_same : (m n : ℕ) → FoldFault.Broken m ≡ FoldFault.Broken n → m ≡ n
broken_same m n e = cc

pub step_broken : (fs : List CertFold) (d : Draft) (rest ds : List Draft) (all : List FoldEntry) (m k : ℕ) → map entry_of fs ++ map draft_entry ds ≡ all → ds ≡ d ∷ rest → ¬ (IsBasis (draft_entry d))
    → m ≡ length fs → FoldFault.Broken m ≡ FoldFault.Broken k → IsFirstBroken all k
step_broken fs d rest ds all m k e h bad len is =
    let whole = ap (λ es. map entry_of fs ++ map draft_entry es) (sym h) ∙ e in
    subst (IsFirstBroken all) (sym len ∙ broken_same m k is) (broken_at fs all (draft_entry d) (map draft_entry rest) whole bad)

pub ruleset multiply_steps = (step_more, step_end, step_broken)

-- ---- The whole

pub broken_in : (loads : ℕ) (d : Data) (ds : List Draft) (k part : ℕ) → folds_value (map draft_entry ds) ≡ d → IsFirstBroken (map draft_entry ds) k → part ≡ 1 + loads + k → IsBrokenIn loads d (fault.Shape part)
broken_in loads d ds k part e first is = record { folds = map draft_entry ds; is_value = e; number = k; first_broken = first; fault = ap fault.Shape is }

pub broken_whole : (loads : ℕ) (d a b x y : Data) (e : CertFault) → whole_object a b x y ≡ d → IsBrokenIn loads x e → IsBrokenAt loads d e
broken_whole loads d a b x y e h in_it = record { value = x; there = ap (get (codes "folds")) (sym h); broken = in_it }

pub is_cert : (c : Cert) (d a b x y : Data) → whole_object a b x y ≡ d → numbers_value c.context ≡ a → list_of tree_value (trees_of c.flow) ≡ b → folds_value (map entry_of c.folds) ≡ x
    → list_of proof_value (map steps_of c.proofs) ≡ y → cert_value (seen c) ≡ d
is_cert c d a b x y h e f g i = ap₂ {A = Data × Data} {B = Data × Data} (λ p q. whole_object p.0 p.1 q.0 q.1) (ap₂ (λ p q. (p, q)) e f) (ap₂ (λ p q. (p, q)) g i) ∙ h

pub ruleset built_steps = (broken_whole, is_cert)

pub refused : (layout : Layout) (d : Data) (e : CertFault) → Some e ≡ refusal layout d → Refuses layout d e
refused layout d e h = inl (sym h)

pub refused_late : (layout : Layout) (loads : ℕ) (d : Data) (e : CertFault) → None ≡ refusal layout d → loads ≡ length layout.loads → IsBrokenAt loads d e → Refuses layout d e
refused_late layout loads d e right len b =
    inr
    record {
      folds = b.broken.folds;
      there = b.there ∙ ap Some (sym b.broken.is_value);
      number = b.broken.number;
      first_broken = b.broken.first_broken;
      else_right = sym right;
      fault = b.broken.fault ∙ ap (λ n. fault.Shape (1 + n + b.broken.number)) len;
    }

either_json : (o u : Option CertFault) → (o ≡ Some fault.Json → ⊥) → (u ≡ Some fault.Json → ⊥) → either o u ≡ Some fault.Json → ⊥
either_json None u h g e = g e
either_json (Some x) u h g e = h e

no_shape_json : (o : Option ℕ) → option_map fault.Shape o ≡ Some fault.Json → ⊥
no_shape_json None e = absurd (cc)
no_shape_json (Some n) e = absurd (cc)

no_number_json : (o : Option ℕ) → option_map fault.Number o ≡ Some fault.Json → ⊥
no_number_json None e = absurd (cc)
no_number_json (Some n) e = absurd (cc)

refusal_by : (b : Bool) (o : Option CertFault) → (o ≡ Some fault.Json → ⊥) → (if b then Some fault.Version else o) ≡ Some fault.Json → ⊥
refusal_by true o h e = absurd (cc)
refusal_by false o h e = h e

pub never_json : (layout : Layout) (d : Data) (e : CertFault) → Some e ≡ refusal layout d → e ≡ fault.Json → ⊥
never_json layout d e h is =
    refusal_by (is_other_version (get (codes "affc") d)) (part_fault (verdicts layout d))
    (either_json (option_map fault.Shape (first is_shape 0 (verdicts layout d))) (option_map fault.Number (first is_number 0 (verdicts layout d))) (no_shape_json (first is_shape 0 (verdicts layout d)))
    (no_number_json (first is_number 0 (verdicts layout d)))) (sym h ∙ ap Some is)

pub ruleset value_steps = (refused, refused_late, never_json)

pub read_well : (text : List ℕ) (layout : Layout) (d : Data) (c : Cert) → IsUtf8 text → read text ≡ Some d → cert_value (seen c) ≡ d → refusal layout d ≡ None
    → ReadsJson text (cert_value (seen c)) × (refusal layout (cert_value (seen c)) ≡ None)
read_well text layout d c utf reads is right = subst (λ x. ReadsJson text x × (refusal layout x ≡ None)) (sym is) ((utf, reads), right)
