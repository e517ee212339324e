-- A text that is accepted isn't refused.
use mathlib.Core.HLevel.{is_prop→PathP}
use native.Mathlib.Bridge.{le_prop}
use Rattle.std.proofs.Common.{◌≡◌, ℕ, ◌≤◌, ℤ, List, [], ◌∷◌, ◌++◌, map, Some, None, refl, sym, ap, ap₂, subst, ◌∙◌, inl, inr}
use Rattle.std.proofs.lemmas.Option.{same_Some}
use Rattle.affc_ast.specs.declared.tree.ArrayId.{ArrayId}
use Rattle.affc_trace.specs.declared.schedule.Schedule.{Schedule}
use Rattle.affc_basis.specs.declared.basis.Basis.{Basis}
use Rattle.affc_domain.proofs.Lists.{stands_in}
use Rattle.affc_nest.specs.declared.nest.Nest.{Nest}
use Rattle.affc_nest.specs.Questions.{whole_context, extent_questions, bound_questions}
use Rattle.affc_sched.specs.Questions.{legality_questions}
use Rattle.affc_flow.specs.Questions.{flow_questions}
use Rattle.affc_quast.specs.Seen.{trees_of}
use Rattle.affc_quast.specs.Trees.{Tree}
use Rattle.affc_cert.specs.Certificates.{Certificate, seen}
use Rattle.affc_cert.specs.Refusals.{ReadsJson, Refuses, refusal}
use Rattle.affc_cert.specs.Values.{cert_value}
use Rattle.affc_cert.specs.declared.cert.Cert.{Cert}
use Rattle.affc_cert.specs.declared.cert.CertFault.{CertFault}
use Rattle.affc_cert.specs.declared.cert.CertFault.TheVariants as text
use Rattle.affc_cert.specs.declared.layout.Layout.{Layout}
use Rattle.affc_cert.proofs.Broken.{right_is_not_refused}
use Rattle.affc_cert.proofs.Unique.{one_certificate}
use Rattle.affc_cert.proofs.Within.{is_within, not_refused as not_refused_within}
use Rattle.affc_certvalue.specs.declared.fold.layout.Temporary.{Temporary}
use Rattle.affc_check.specs.list.Certs.{AreFoldsSaid, AreItems}
use Rattle.affc_check.specs.list.Held.{flow_item, legality_item}
use Rattle.affc_check.specs.list.Items.{Item, Question, Shown, items}
use Rattle.affc_check.specs.Valid.{AreValid}
use Rattle.affc_check.specs.declared.fault.CheckFault.TheVariants as items_fault
use Rattle.affc_check.proofs.Read.{failing_is_not_valid}
use Rattle.serde_json.specs.Data.{Data}
use Rattle.affc_accept.specs.declared.fault.AcceptFault.TheVariants.{Certificate as OfText, Check as OfItems, Memory}
use Rattle.affc_accept.specs.Accepted.{IsRead}
use Rattle.affc_accept.specs.Bases.{KeepBases}
use Rattle.affc_accept.specs.Columns.{in_text, trees_in_text, trees_from_text}
use Rattle.affc_accept.specs.Laws.{AcceptedIsNotRefused}
use Rattle.affc_accept.specs.Layouts.{dimensions_of, IsLayout}
use Rattle.affc_accept.specs.Refusals.{IsRefused, HasOtherBasis}
use Rattle.affc_accept.proofs.ColumnLemmas.{from_text_back}
use Rattle.affc_accept.proofs.Refused.{certificate_within}
use Rattle.affc_accept.proofs.Alike.{like_in, keeps_alike, folds_alike, items_valid_alike}
use Rattle.affc_accept.proofs.Passing.{valid_passes_nothing}

-- ---- One layout

temporary_same : (a b : Temporary) → dimensions_of a ≡ dimensions_of b → a ≡ b
temporary_same a b e = λ i. record {
  array = (e i).0;
  dimensions = (e i).1;
  few = is_prop→PathP (λ j. (e j).1 ≤ 4) (λ j. le_prop) a.few b.few i;
}

temporaries_same : (as' bs : List Temporary) → map dimensions_of as' ≡ map dimensions_of bs → as' ≡ bs
temporaries_same [] [] e = refl
temporaries_same [] (b ∷ bs) e = absurd (cc)
temporaries_same (a ∷ as') [] e = absurd (cc)
temporaries_same (a ∷ as') (b ∷ bs) e =
    let first : dimensions_of a ≡ dimensions_of b = cc in
    let more : map dimensions_of as' ≡ map dimensions_of bs = cc in
    ap₂ (λ x xs. x ∷ xs) (temporary_same a b first) (temporaries_same as' bs more)

pub one_layout : (nest : Nest) (a b : Layout) → IsLayout nest a → IsLayout nest b → a ≡ b
one_layout nest a b h k = λ i. record {
  parameters = (h.parameters ∙ sym k.parameters) i;
  loads = (h.loads ∙ sym k.loads) i;
  temporaries = temporaries_same a.temporaries b.temporaries (h.temporaries ∙ sym k.temporaries) i;
}

-- ---- One value, and one certificate but for where its boxes lie

one_value : (bytes : List ℕ) (d e : Data) → ReadsJson bytes d → ReadsJson bytes e → d ≡ e
one_value bytes d e h k = same_Some d e (sym h.1 ∙ k.1)

one_before : (l : Layout) (a b : Certificate) → refusal l (cert_value (in_text l a)) ≡ None → refusal l (cert_value (in_text l b)) ≡ None → in_text l a ≡ in_text l b → a ≡ b
one_before l a b h k e =
    let back : (c : Certificate) → refusal l (cert_value (in_text l c)) ≡ None → trees_from_text l.parameters l.loads (trees_in_text l.parameters l.loads c.trees) ≡ c.trees
    = λ c right. from_text_back l.parameters l.loads c.trees (is_within l (in_text l c) right).trees in
    let trees : a.trees ≡ b.trees = sym (back a h) ∙ ap (λ (c : Certificate). trees_from_text l.parameters l.loads c.trees) e ∙ back b k in
    λ i. record { context = (e i).context; trees = trees i; folds = (e i).folds; proofs = (e i).proofs }

pub one_seen : (nest : Nest) (bytes : List ℕ) (a b : Cert) → IsRead nest bytes a → IsRead nest bytes b → seen a ≡ seen b
one_seen nest bytes a b h k =
    let l : Layout = h.layout in
    let same : k.layout ≡ l = one_layout nest k.layout l k.is_layout h.is_layout in
    let reads : ReadsJson bytes (cert_value (in_text l (seen b))) = subst (λ (m : Layout). ReadsJson bytes (cert_value (in_text m (seen b)))) same k.reads in
    let right : refusal l (cert_value (in_text l (seen b))) ≡ None = subst (λ (m : Layout). refusal m (cert_value (in_text m (seen b))) ≡ None) same k.right in
    one_before l (seen a) (seen b) h.right right
    (one_certificate (in_text l (seen a)) (in_text l (seen b)) (one_value bytes (cert_value (in_text l (seen a))) (cert_value (in_text l (seen b))) h.reads reads))

text_not_refused : (l : Layout) (c : Cert) (fault : CertFault) → refusal l (cert_value (in_text l (seen c))) ≡ None → Refuses l (cert_value (in_text l (seen c))) fault → ⊥
text_not_refused l c fault right (inl h) = let no : None ≡ Some fault = sym right ∙ h in absurd (cc)
text_not_refused l c fault right (inr b) =
    let fine = not_refused_within l (seen c) (certificate_within l (seen c) right) in
    right_is_not_refused l c fault fine (inr (record { folds = b.folds; there = b.there; number = b.number; first_broken = b.first_broken; else_right = fine; fault = b.fault }))

not_refused : (nest : Nest) (bytes : List ℕ) (c : Cert) (fault : CertFault) → IsRead nest bytes c → IsRefused nest bytes fault → ⊥
not_refused nest bytes c fault read r =
    text_not_refused read.layout c fault read.right
    (subst (λ (l : Layout). Refuses l (cert_value (in_text read.layout (seen c))) fault) (one_layout nest r.layout read.layout r.is_layout read.is_layout)
    (subst (λ d. Refuses r.layout d fault) (one_value bytes r.value (cert_value (in_text read.layout (seen c))) r.reads read.reads) r.refuses))

-- ---- The bases

no_other : (nest : Nest) (bases : List (ArrayId × Basis)) (bytes : List ℕ) (c : Cert) (part : ℕ) → IsRead nest bytes c → KeepBases nest bases c.folds → HasOtherBasis nest bases bytes part → ⊥
no_other nest bases bytes c part read kept o =
    let same : seen c ≡ seen o.cert = one_seen nest bytes c o.cert read o.read in
    let r = like_in c.folds o.cert.folds o.first.item (ap (λ (s : Certificate). s.folds) same) (stands_in o.cert.folds o.fold o.first.item o.first.there) in
    o.first.holds (keeps_alike r.0 o.first.item r.2 nest bases (kept r.0 r.1))

-- ---- The items

module _ (nest : Nest) (schedule : Schedule) (a b : Cert) (same : seen a ≡ seen b) where
  trees_same : trees_of a.flow ≡ trees_of b.flow
  trees_same = ap (λ (s : Certificate). s.trees) same

  -- the items, where these are those of the folds
  abbrev items_with : (context : List ℤ) → List Tree → List Item → List Item
  items_with context trees of_folds =
      Shown (whole_context nest) context
      ∷ (map Question (extent_questions nest) ++ (map Question (bound_questions nest) ++ (map flow_item (flow_questions nest trees) ++ (map legality_item (legality_questions nest schedule) ++ of_folds))))

  items_same : (is js : List Item) → AreItems nest schedule a is → AreItems nest schedule b js → is ≡ js
  items_same is js h k =
      let said : AreFoldsSaid nest schedule (trees_of b.flow) a.folds h.folds = subst (λ ts. AreFoldsSaid nest schedule ts a.folds h.folds) trees_same h.said in
      let folds = folds_alike nest schedule (trees_of b.flow) a.folds b.folds h.folds k.folds (ap (λ (s : Certificate). s.folds) same) said k.said in
      h.are
      ∙ ap (λ x. items nest schedule x (trees_of a.flow) h.folds) (ap (λ (s : Certificate). s.context) same)
      ∙ ap (λ ts. items nest schedule b.context ts h.folds) trees_same
      ∙ ap (λ fs. items_with b.context (trees_of b.flow) fs) folds
      ∙ sym k.are

  -- so the other is valid with them
  pub valid_too : (is js : List Item) → AreItems nest schedule a is → AreItems nest schedule b js → AreValid is a.proofs → AreValid js b.proofs
  valid_too is js h k v =
      subst (λ l. AreValid l b.proofs) (items_same is js h k) (items_valid_alike is a.proofs b.proofs (ap (λ (s : Certificate). s.proofs) same) v)

-- ---- The law

pub accepted_is_not_refused : AcceptedIsNotRefused
accepted_is_not_refused nest plan bytes folds Memory a says = refl
accepted_is_not_refused nest plan bytes folds (OfText text.Json) a says = absurd (says (cert_value (in_text a.read.layout (seen a.cert))) a.read.reads)
accepted_is_not_refused nest plan bytes folds (OfText text.Version) a says = absurd (not_refused nest bytes a.cert text.Version a.read says)
accepted_is_not_refused nest plan bytes folds (OfText (text.Shape part)) a (inl says) = absurd (not_refused nest bytes a.cert (text.Shape part) a.read says)
accepted_is_not_refused nest plan bytes folds (OfText (text.Shape part)) a (inr says) = absurd (no_other nest plan.folds bytes a.cert part a.read a.bases says)
accepted_is_not_refused nest plan bytes folds (OfText (text.Number part)) a says = absurd (not_refused nest bytes a.cert (text.Number part) a.read says)
accepted_is_not_refused nest plan bytes folds (OfText text.Memory) a says = absurd says
accepted_is_not_refused nest plan bytes folds (OfItems (items_fault.Number part)) a says =
    absurd (valid_passes_nothing nest plan.schedule a.cert says.cert a.read.layout (one_seen nest bytes a.cert says.cert a.read says.read) a.read.is_layout a.read.right a.is_checked.items a.is_checked.are a.is_checked.valid part says.says)
accepted_is_not_refused nest plan bytes folds (OfItems (items_fault.Proof n)) a says =
    let s = says.says in
    absurd
    (failing_is_not_valid s.items says.cert.proofs n s.fails.first
    (valid_too nest plan.schedule a.cert says.cert (one_seen nest bytes a.cert says.cert a.read says.read) a.is_checked.items s.items a.is_checked.are s.are a.is_checked.valid))
accepted_is_not_refused nest plan bytes folds (OfItems (items_fault.Shown n)) a says =
    let s = says.says in
    absurd
    (failing_is_not_valid s.items says.cert.proofs n s.fails.first
    (valid_too nest plan.schedule a.cert says.cert (one_seen nest bytes a.cert says.cert a.read says.read) a.is_checked.items s.items a.is_checked.are s.are a.is_checked.valid))
accepted_is_not_refused nest plan bytes folds (OfItems items_fault.Memory) a says = absurd says
