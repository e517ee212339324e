-- Certificates of which no refusal speaks are those within the limits.
use Rattle.affc_cert.proofs.Broken.{right_is_not_refused}
use Rattle.affc_cert.proofs.Unique.{one_certificate}
use Rattle.affc_cert.specs.Certificates.{Certificate, seen}
use Rattle.affc_cert.specs.Limits.{FitsCert}
use Rattle.affc_cert.specs.Refusals.{ReadsJson, Refuses, refusal, verdicts, part_fault, either, first, is_shape, is_number, counted, each, each_by, top}
use Rattle.affc_cert.specs.Values.{cert_value}
use Rattle.affc_cert.specs.Within.{IsWithin}
use Rattle.affc_cert.specs.declared.cert.Cert.{Cert}
use Rattle.affc_cert.specs.declared.cert.CertFault.{CertFault}
use Rattle.affc_cert.specs.declared.cert.CertFault.TheVariants as fault
use Rattle.affc_cert.specs.declared.layout.Layout.{Layout}
use Rattle.affc_certvalue.proofs.fold.Within.{fold_fine, fold_is}
use Rattle.affc_certvalue.specs.fold.Entries.{FoldEntry, entry_of}
use Rattle.affc_certvalue.specs.fold.Folds.{fold}
use Rattle.affc_certvalue.specs.fold.Limits.{IsModulusWithin, IsFoldWithin}
use Rattle.affc_certvalue.specs.fold.Values.{fold_value, folds_value}
use Rattle.affc_certvalue.specs.declared.fold.fold.CertFold.{CertFold}
use Rattle.affc_certvalue.specs.declared.fold.fold.CertModulus.{CertModulus}
use Rattle.affc_certvalue.specs.declared.fold.layout.Temporary.{Temporary}
use Rattle.affc_certvalue.proofs.proof.Within.{proof_fine, proof_is, proof_fits}
use Rattle.affc_certvalue.specs.proof.Limits.{FitsProof, IsProofWithin}
use Rattle.affc_certvalue.specs.proof.Proofs.{Steps, steps_of}
use Rattle.affc_certvalue.specs.proof.Values.{proof_value}
use Rattle.affc_certvalue.specs.proof.Verdicts.{proof}
use Rattle.affc_cert.proofs.tree.Words.{tree_fits}
use Rattle.affc_cert.proofs.tree.Within.{tree_fine, tree_is}
use Rattle.affc_cert.specs.tree.Limits.{FitsTree}
use Rattle.affc_cert.specs.tree.Trees.{tree}
use Rattle.affc_cert.specs.tree.Values.{tree_value}
use Rattle.affc_cert.specs.tree.Within.{IsTreeWithin}
use Rattle.affc_cert.specs.declared.tree.layout.Load.{Load}
use Rattle.affc_certvalue.proofs.Within.{both_are, if_is, word_fine, word_is, len_map, many_fine, many_are, all_weaker, small_fits}
use Rattle.affc_certvalue.specs.Limits.{IsWord, FitsForm}
use Rattle.affc_certvalue.specs.Values.{list_of, whole_value, numbers_value}
use Rattle.affc_certvalue.specs.Verdicts.{worse, any_number, list, many}
use Rattle.affc_certvalue.specs.declared.verdict.Verdict.{Verdict}
use Rattle.affc_certvalue.specs.declared.verdict.Verdict.TheVariants.{Shape, Number, Fine}
use Rattle.affc_quast.specs.Seen as quast
use Rattle.affc_quast.specs.declared.quast.Quast.{Quast}
use Rattle.affc_farkas.specs.declared.proof.Proof.{Proof}
use Rattle.serde_json.specs.Data.{Data}
use Rattle.serde_json.specs.Events.{items_len}
use Rattle.serde_json.specs.Read.{read}
use Rattle.serde_json.specs.View.{items_of}
use Rattle.std.proofs.Common.{◌≡◌, ◌≢◌, ℕ, ◌+◌, ◌^◌, ◌==◌, Bool, true, false, List, [], ◌∷◌, ◌++◌, length, map, Option, Some, None, option_map, if◌then◌else◌, refl, sym, ap, ap₂, ◌∙◌, subst, arith, eq-eqb}
use Rattle.std.proofs.lemmas.Bool.{eqb-true}
use Rattle.std.proofs.lemmas.List.Elements.{All-from_recursion, recursion_from_All}
use Rattle.std.proofs.lemmas.Option.{same_Some}
use Rattle.std.proofs.lemmas.Slice.Zip.{AllZip-long}
use Rattle.std.specs.List.{All, AllByRecursion, AllZip}
use Rattle.std.specs.Prelude.{Result, Ok, Err, IfOk, IfErr, MatchResult}

-- ---- Parts

abbrev AllFine : List Verdict → Type 0
AllFine vs = AllByRecursion (λ v. v ≡ Fine) vs

none_first : (test : Verdict → Bool) → test Fine ≡ false → (k : ℕ) (vs : List Verdict) → AllFine vs → first test k vs ≡ None
none_first test e k [] h = refl
none_first test e k (v ∷ vs) h = let no : test v ≡ false = ap test h.0 ∙ e in rw no (none_first test e (k + 1) vs h.1)

no_fault : (vs : List Verdict) → AllFine vs → part_fault vs ≡ None
no_fault vs h = rw (none_first is_shape refl 0 vs h, none_first is_number refl 0 vs h) refl

clean : (k : ℕ) (vs : List Verdict) → first is_shape k vs ≡ None → first is_number k vs ≡ None → AllFine vs
clean k [] e f = tt
clean k (Shape ∷ vs) e f = absurd (cc)
clean k (Number ∷ vs) e f = absurd (cc)
clean k (Fine ∷ vs) e f = (refl, clean (k + 1) vs e f)

abbrev AreNone : Option CertFault → Option CertFault → Type 0
AreNone o u = (o ≡ None) × (u ≡ None)

either_none : (o u : Option CertFault) → either o u ≡ None → AreNone o u
either_none None u e = (refl, e)
either_none (Some x) u e = absurd (cc)

map_none : (f : ℕ → CertFault) (o : Option ℕ) → option_map f o ≡ None → o ≡ None
map_none f None e = refl
map_none f (Some n) e = absurd (cc)

fault_none : (vs : List Verdict) → part_fault vs ≡ None → AllFine vs
fault_none vs e =
    let two = either_none (option_map fault.Shape (first is_shape 0 vs)) (option_map fault.Number (first is_number 0 vs)) e in
    clean 0 vs (map_none fault.Shape (first is_shape 0 vs) two.0) (map_none fault.Number (first is_number 0 vs) two.1)

joined : (xs ys : List Verdict) → AllFine xs → AllFine ys → AllFine (xs ++ ys)
joined [] ys h g = g
joined (x ∷ xs) ys h g = (h.0, joined xs ys h.1 g)

abbrev AreFine : List Verdict → List Verdict → Type 0
AreFine xs ys = AllFine xs × AllFine ys

parted : (xs ys : List Verdict) → AllFine (xs ++ ys) → AreFine xs ys
parted [] ys h = (tt, h)
parted (x ∷ xs) ys h = let rest = parted xs ys h.1 in ((h.0, rest.0), rest.1)

each_fine : {A : Type 0} (judge : Data → Verdict) (f : A → Data) (P : A → Type 0) → ((a : A) → P a → judge (f a) ≡ Fine) → (xs : List A) → AllByRecursion P xs → AllFine (each judge (items_of (map f xs)))
each_fine judge f P one [] h = tt
each_fine judge f P one (x ∷ xs) h = (one x h.0, each_fine judge f P one xs h.1)

each_is : {A : Type 0} (judge : Data → Verdict) (f : A → Data) (P : A → Type 0) → ((a : A) → judge (f a) ≡ Fine → P a) → (xs : List A) → AllFine (each judge (items_of (map f xs))) → AllByRecursion P xs
each_is judge f P one [] h = tt
each_is judge f P one (x ∷ xs) h = (one x h.0, each_is judge f P one xs h.1)

zip_fine : {A B : Type 0} (judge : A → Data → Verdict) (f : B → Data) (R : A → B → Type 0) → ((a : A) (b : B) → R a b → judge a (f b) ≡ Fine) → (xs : List A) (ys : List B) → AllZip R xs ys
    → AllFine (each_by judge xs (items_of (map f ys)))
zip_fine judge f R one [] [] h = tt
zip_fine judge f R one [] (y ∷ ys) h = absurd h
zip_fine judge f R one (x ∷ xs) [] h = absurd h
zip_fine judge f R one (x ∷ xs) (y ∷ ys) h = (one x y h.0, zip_fine judge f R one xs ys h.1)

zip_is : {A B : Type 0} (judge : A → Data → Verdict) (f : B → Data) (R : A → B → Type 0) → ((a : A) (b : B) → judge a (f b) ≡ Fine → R a b) → (xs : List A) (ys : List B) → length ys ≡ length xs
    → AllFine (each_by judge xs (items_of (map f ys))) → AllZip R xs ys
zip_is judge f R one [] [] e h = tt
zip_is judge f R one [] (y ∷ ys) e h = absurd (omega (arith, e))
zip_is judge f R one (x ∷ xs) [] e h = absurd (omega (arith, e))
zip_is judge f R one (x ∷ xs) (y ∷ ys) e h = (one x y h.0, zip_is judge f R one xs ys (omega (arith, e)) h.1)

-- ---- The object

counted_fine : {A : Type 0} (n : ℕ) (f : A → Data) (xs : List A) → length xs ≡ n → list (counted n) (list_of f xs) ≡ Fine
counted_fine n f xs e = rw (len_map f xs, eq-eqb (length xs) n e) refl

counted_is : {A : Type 0} (n : ℕ) (f : A → Data) (xs : List A) → list (counted n) (list_of f xs) ≡ Fine → length xs ≡ n
counted_is n f xs e = sym (len_map f xs) ∙ eqb-true (items_len (items_of (map f xs))) n (if_is (items_len (items_of (map f xs)) == n) Fine e).0

abbrev context_verdict : Layout → Certificate → Verdict
context_verdict layout c = list (many layout.parameters any_number) (numbers_value c.context)

abbrev flow_verdict : Layout → Certificate → Verdict
flow_verdict layout c = list (counted (length layout.loads)) (list_of tree_value c.trees)

abbrev folds_verdict : Layout → Certificate → Verdict
folds_verdict layout c = list (counted (length layout.temporaries)) (folds_value c.folds)

top_fine : (layout : Layout) (c : Certificate) → IsWithin layout c → top layout (cert_value c) ≡ Fine
top_fine layout c h =
    ap₂ worse (many_fine layout.parameters any_number whole_value IsWord word_fine c.context h.each h.words)
    (ap₂ (λ v w. worse v (worse w Fine)) (counted_fine (length layout.loads) tree_value c.trees (AllZip-long IsTreeWithin layout.loads c.trees h.trees))
    (counted_fine (length layout.temporaries) fold_value c.folds (AllZip-long (IsFoldWithin layout.parameters) layout.temporaries c.folds h.folds)))

pub not_refused : (layout : Layout) (c : Certificate) → IsWithin layout c → refusal layout (cert_value c) ≡ None
not_refused layout c h =
    let trees = zip_fine tree tree_value IsTreeWithin tree_fine layout.loads c.trees h.trees in
    let folds = zip_fine (fold layout.parameters) fold_value (IsFoldWithin layout.parameters) (fold_fine layout.parameters) layout.temporaries c.folds h.folds in
    let proofs = each_fine proof proof_value IsProofWithin proof_fine c.proofs (recursion_from_All IsProofWithin c.proofs h.proofs) in
    no_fault (verdicts layout (cert_value c)) (top_fine layout c h, joined _ _ trees (joined _ _ folds proofs))

pub is_within : (layout : Layout) (c : Certificate) → refusal layout (cert_value c) ≡ None → IsWithin layout c
is_within layout c e =
    let found = fault_none (verdicts layout (cert_value c)) e in
    let trees = each_by tree layout.loads (items_of (map tree_value c.trees)) in
    let folds = each_by (fold layout.parameters) layout.temporaries (items_of (map fold_value c.folds)) in
    let proofs = each proof (items_of (map proof_value c.proofs)) in
    let first = parted trees (folds ++ proofs) found.1 in
    let second = parted folds proofs first.1 in
    let context = both_are (context_verdict layout c) (worse (flow_verdict layout c) (worse (folds_verdict layout c) Fine)) found.0 in
    let flow = both_are (flow_verdict layout c) (worse (folds_verdict layout c) Fine) context.1 in
    let values = many_are layout.parameters any_number whole_value IsWord word_is c.context context.0 in
    let loads = counted_is (length layout.loads) tree_value c.trees flow.0 in
    let temporaries = counted_is (length layout.temporaries) fold_value c.folds (both_are (folds_verdict layout c) Fine flow.1).0 in
    record {
      each = values.0;
      words = values.1;
      trees = zip_is tree tree_value IsTreeWithin tree_is layout.loads c.trees loads first.0;
      folds = zip_is (fold layout.parameters) fold_value (IsFoldWithin layout.parameters) (fold_is layout.parameters) layout.temporaries c.folds temporaries second.0;
      proofs = All-from_recursion IsProofWithin c.proofs (each_is proof proof_value IsProofWithin proof_is c.proofs second.1);
    }

-- ---- Its numbers fit 64 bits

trees_fit : (loads : List Load) (ts : List Quast) → AllZip IsTreeWithin loads (map quast.seen ts) → AllByRecursion FitsTree ts
trees_fit [] [] h = tt
trees_fit [] (t ∷ ts) h = absurd h
trees_fit (l ∷ loads) [] h = absurd h
trees_fit (l ∷ loads) (t ∷ ts) h = (tree_fits t h.0.fits, trees_fit loads ts h.1)

abbrev FitModuli : CertFold → Type 0
FitModuli f = All (λ m. FitsForm m.form) f.moduli

modulus_fits : (n : ℕ) (m : CertModulus) → IsModulusWithin n m → FitsForm m.form
modulus_fits n m h = small_fits 1073741824 36028797018963968 m.form (omega arith) (omega arith) h.small

folds_fit : (n : ℕ) (temporaries : List Temporary) (fs : List CertFold) → AllZip (IsFoldWithin n) temporaries (map entry_of fs) → AllByRecursion FitModuli fs
folds_fit n [] [] h = tt
folds_fit n [] (f ∷ fs) h = absurd h
folds_fit n (t ∷ ts) [] h = absurd h
folds_fit n (t ∷ ts) (f ∷ fs) h = (all_weaker (IsModulusWithin n) (λ m. FitsForm m.form) (modulus_fits n) f.moduli h.0.moduli, folds_fit n ts fs h.1)

proofs_fit : (ps : List Proof) → AllByRecursion IsProofWithin (map steps_of ps) → AllByRecursion FitsProof ps
proofs_fit [] h = tt
proofs_fit (p ∷ ps) h = (proof_fits p h.0, proofs_fit ps h.1)

pub fits : (layout : Layout) (c : Cert) → IsWithin layout (seen c) → FitsCert c
fits layout c h =
    record {
      trees = All-from_recursion FitsTree c.flow.trees (trees_fit layout.loads c.flow.trees h.trees);
      moduli = All-from_recursion FitModuli c.folds (folds_fit layout.parameters layout.temporaries c.folds h.folds);
      proofs = All-from_recursion FitsProof c.proofs (proofs_fit c.proofs (recursion_from_All IsProofWithin (map steps_of c.proofs) h.proofs));
    }

-- ---- What is read of it

memory : (e : CertFault) → (e ≢ fault.Memory → ⊥) → e ≡ fault.Memory
memory fault.Json h = absurd (h (λ same. absurd (cc)))
memory fault.Version h = absurd (h (λ same. absurd (cc)))
memory (fault.Shape n) h = absurd (h (λ same. absurd (cc)))
memory (fault.Number n) h = absurd (h (λ same. absurd (cc)))
memory fault.Memory h = refl

pub read_back : (layout : Layout) (c : Cert) (d : Data) (r : Result Cert CertFault) → IfOk r (λ b. cert_value (seen b) ≡ d) → IfErr r (λ e. e ≢ fault.Memory → Refuses layout d e) → cert_value (seen c) ≡ d → IsWithin layout (seen c)
    → MatchResult r (λ b. seen b ≡ seen c) (λ e. e ≡ fault.Memory)
read_back layout c d (Ok b) ok err same h = one_certificate (seen b) (seen c) (ok ∙ sym same)
read_back layout c d (Err e) ok err same h = memory e (λ other. right_is_not_refused layout c e (not_refused layout (seen c) h) (subst (λ x. Refuses layout x e) (sym same) (err other)))

pub back_well : (text : List ℕ) (layout : Layout) (c : Cert) (d : Data) (r : Result Cert CertFault) → read text ≡ Some d → IfOk r (λ b. cert_value (seen b) ≡ d) → IfErr r (λ e. e ≢ fault.Memory → Refuses layout d e)
    → ReadsJson text (cert_value (seen c)) → IsWithin layout (seen c) → MatchResult r (λ b. seen b ≡ seen c) (λ e. e ≡ fault.Memory)
back_well text layout c d r reads ok err h w = read_back layout c d r ok err (same_Some _ _ (sym h.1 ∙ reads)) w
