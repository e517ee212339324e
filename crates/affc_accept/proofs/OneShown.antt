-- A text that is accepted shows folds of the same rows and moduli, whatever stands beside them.
use Rattle.std.proofs.Common.{◌≡◌, ℕ, List, [], ◌∷◌, map, refl, sym, ap, ap₂, ◌∙◌}
use Rattle.affc_rows.specs.Forms.{Affine}
use Rattle.affc_system.specs.declared.pairs.PairSystem.{PairSystem}
use Rattle.affc_ast.specs.declared.tree.ArrayId.{ArrayId}
use Rattle.affc_trace.specs.declared.schedule.Schedule.{Schedule}
use Rattle.affc_basis.specs.declared.fold.Fold.{Fold}
use Rattle.affc_basis.specs.Folds.{forms_of}
use Rattle.affc_nest.specs.declared.nest.Nest.{Nest}
use Rattle.affc_quast.specs.Seen.{trees_of}
use Rattle.affc_quast.specs.Trees.{Tree}
use Rattle.affc_schedtext.specs.declared.plan.Plan.{Plan}
use Rattle.affc_cert.specs.Certificates.{Certificate}
use Rattle.affc_certvalue.specs.fold.Entries.{entry_of}
use Rattle.affc_certvalue.specs.declared.fold.fold.CertFold.{CertFold}
use Rattle.affc_check.specs.Answers.{IsFoldMade}
use Rattle.affc_check.specs.list.Certs.{modulus_said, AreFoldsSaid}
use Rattle.affc_check.specs.list.Items.{ModulusShown, FoldShown, moduli_of}
use Rattle.affc_accept.specs.Accepted.{IsAccepted}
use Rattle.affc_accept.proofs.Alike.{same_array, same_moduli, same_rows}
use Rattle.affc_accept.proofs.Shows.{zip_map}
use Rattle.affc_accept.proofs.Unique.{one_seen}

-- what is said of a fold: its array, its rows, and the forms of its moduli
abbrev pub Said : Type 0
Said = ℕ × List Affine × List Affine

abbrev pub said_of : ArrayId × Fold → Said
said_of f = (f.0.0, f.1.basis.rows, forms_of f.1.moduli)

abbrev of_shown : FoldShown → Said
of_shown f = (f.array, f.rows, forms_of (moduli_of [] f.rows f.moduli))

abbrev of_cert : CertFold → Said
of_cert c = (c.array.0, c.basis.rows, forms_of (moduli_of [] c.basis.rows (map modulus_said c.moduli)))

-- the systems are for the marks alone
forms_alone : (systems : List PairSystem) (rows : List Affine) (ms : List ModulusShown) → forms_of (moduli_of systems rows ms) ≡ forms_of (moduli_of [] rows ms)
forms_alone systems [] ms = refl
forms_alone systems (row ∷ rows) [] = refl
forms_alone systems (row ∷ rows) (m ∷ ms) = ap (λ fs. m.form ∷ fs) (forms_alone systems rows ms)

made_says : (f : FoldShown) (made : ArrayId × Fold) → IsFoldMade f made → said_of made ≡ of_shown f
made_says f made h =
    let moduli : forms_of made.1.moduli ≡ forms_of (moduli_of [] f.rows f.moduli) = ap forms_of h.shown.moduli ∙ forms_alone f.systems f.rows f.moduli in
    λ i. (h.array i, h.shown.rows i, moduli i)

module _ (nest : Nest) (schedule : Schedule) (trees : List Tree) where
  shown_say : (cs : List CertFold) (fs : List FoldShown) → AreFoldsSaid nest schedule trees cs fs → map of_shown fs ≡ map of_cert cs
  shown_say [] [] h = refl
  shown_say [] (f ∷ fs) h = absurd h
  shown_say (c ∷ cs) [] h = absurd h
  shown_say (c ∷ cs) (f ∷ fs) h =
      let moduli : forms_of (moduli_of [] f.rows f.moduli) ≡ forms_of (moduli_of [] c.basis.rows (map modulus_said c.moduli)) = ap₂ (λ rows ms. forms_of (moduli_of [] rows ms)) h.0.rows h.0.moduli in
      let first : of_shown f ≡ of_cert c = λ i. (h.0.array i, h.0.rows i, moduli i) in
      ap₂ (λ x xs. x ∷ xs) first (shown_say cs fs h.1)

certs_say : (cs ds : List CertFold) → map entry_of cs ≡ map entry_of ds → map of_cert cs ≡ map of_cert ds
certs_say [] [] e = refl
certs_say [] (d ∷ ds) e = absurd (cc)
certs_say (c ∷ cs) [] e = absurd (cc)
certs_say (c ∷ cs) (d ∷ ds) e =
    let first : entry_of c ≡ entry_of d = cc in
    let more : map entry_of cs ≡ map entry_of ds = cc in
    let moduli : forms_of (moduli_of [] c.basis.rows (map modulus_said c.moduli)) ≡ forms_of (moduli_of [] d.basis.rows (map modulus_said d.moduli))
    = ap₂ (λ rows ms. forms_of (moduli_of [] rows (map modulus_said ms))) (same_rows c d first) (same_moduli c d first) in
    let here : of_cert c ≡ of_cert d = λ i. (same_array c d first i, same_rows c d first i, moduli i) in
    ap₂ (λ x xs. x ∷ xs) here (certs_say cs ds more)

accepted_says : (nest : Nest) (plan : Plan) (text : List ℕ) (folds : List (ArrayId × Fold)) (a : IsAccepted nest plan text folds) → map said_of folds ≡ map of_cert a.cert.folds
accepted_says nest plan text folds a =
    ap (map said_of) (sym a.are)
    ∙ zip_map IsFoldMade of_shown said_of made_says a.is_checked.are.folds a.checked.folds.items a.is_checked.folds
    ∙ shown_say nest plan.schedule (trees_of a.cert.flow) a.cert.folds a.is_checked.are.folds a.is_checked.are.said

pub one_shown : (nest : Nest) (plan plan' : Plan) (text : List ℕ) (folds others : List (ArrayId × Fold)) → IsAccepted nest plan text folds → IsAccepted nest plan' text others → map said_of folds ≡ map said_of others
one_shown nest plan plan' text folds others a b =
    accepted_says nest plan text folds a
    ∙ certs_say a.cert.folds b.cert.folds (ap (λ (s : Certificate). s.folds) (one_seen nest text a.cert b.cert a.read b.read))
    ∙ sym (accepted_says nest plan' text others b)
