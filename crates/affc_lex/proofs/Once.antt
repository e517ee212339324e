-- One text is cut into pieces in one way only.
use Rattle.std.proofs.Common.{◌≡◌, ◌⊎◌, inl, inr, ⊎_elim, ℕ, true, List, [], ◌∷◌, ◌++◌, length, take, refl, sym, ap, ◌∙◌, subst, arith, append_assoc}
use Rattle.std.proofs.lemmas.List.{take_at, append_cancel_left}
use Rattle.std.proofs.lemmas.Bool.{and_parts}
use Rattle.affc_lex.specs.declared.piece.What.{What}
use Rattle.affc_lex.specs.declared.piece.Spot.{Spot}
use Rattle.affc_lex.specs.declared.piece.Found.{Found}
use Rattle.affc_lex.specs.declared.piece.Found.TheVariants.{Piece as found_piece}
use Rattle.affc_lex.specs.Pieces.{Piece, stands, text_of, all_stand, spot_behind, next_spot}
use Rattle.affc_lex.specs.Reading.{read}
use Rattle.affc_lex.proofs.Complete.{complete, complete_empty}

-- The first piece

same_found : (v w : What) (m n : ℕ) → ◌≡◌ {A = Found} (found_piece v m) (found_piece w n) → (v ≡ w) × (m ≡ n)
same_found v w m n e = (cc, cc)

record SamePiece (v w : What) (xs ys a b : List ℕ) : Type 0 where
  what : v ≡ w
  bytes : xs ≡ ys
  rest : a ≡ b

first_same : (spot : Spot) (v w : What) (xs ys a b : List ℕ) → xs ++ a ≡ ys ++ b → stands spot v xs a ≡ true → stands spot w ys b ≡ true → SamePiece v w xs ys a b
first_same spot v w [] [] a b e sv sw =
    let p = complete_empty spot v a sv in
    let q = complete_empty spot w b sw in
    record { what = p.0 ∙ sym q.0; bytes = refl; rest = e }
first_same spot v w [] (y ∷ ys) a b e sv sw =
    let p = complete_empty spot v a sv in
    absurd (omega (arith, ap length (sym p.1 ∙ e)))
first_same spot v w (x ∷ xs) [] a b e sv sw =
    let q = complete_empty spot w b sw in
    absurd (omega (arith, ap length (e ∙ q.1)))
first_same spot v w (x ∷ xs) (y ∷ ys) a b e sv sw =
    let found : found_piece v (length (x ∷ xs)) ≡ found_piece w (length (y ∷ ys)) = sym (complete spot v x xs a sv) ∙ ap (read spot) e ∙ complete spot w y ys b sw in
    let same = same_found v w (length (x ∷ xs)) (length (y ∷ ys)) found in
    let bytes : x ∷ xs ≡ y ∷ ys = sym (take_at (x ∷ xs) a (length (x ∷ xs)) refl) ∙ ap (take (length (x ∷ xs))) e ∙ ap (λ n. take n (y ∷ ys ++ b)) same.1 ∙ take_at (y ∷ ys) b (length (y ∷ ys)) refl in
    record { what = same.0; bytes = bytes; rest = append_cancel_left (x ∷ xs) a b (e ∙ ap (λ zs. zs ++ b) (sym bytes)) }

-- Two ways to cut one text: one goes on with the other

-- the pieces `more` take the first pieces further, up to `b`
pub record Further (spot : Spot) (ps qs : List Piece) (a b : List ℕ) : Type 0 where
  pub more : List Piece
  pub all : qs ≡ ps ++ more
  pub standing : all_stand (spot_behind spot ps) more b ≡ true
  pub rest : a ≡ text_of more ++ b

further_by : (spot : Spot) (p : Piece) (ps qs : List Piece) (a b : List ℕ) → Further (next_spot spot p.what p.bytes) ps qs a b → Further spot (p ∷ ps) (p ∷ qs) a b
further_by spot p ps qs a b f = record { more = f.more; all = ap (λ zs. p ∷ zs) f.all; standing = f.standing; rest = f.rest }

same_piece : (p q : Piece) → p.what ≡ q.what → p.bytes ≡ q.bytes → p ≡ q
same_piece p q e f = ap (λ v. record { what = v; bytes = p.bytes }) e ∙ ap (λ zs. record { what = q.what; bytes = zs }) f

pub one_cut : (spot : Spot) (ps qs : List Piece) (a b : List ℕ) → text_of ps ++ a ≡ text_of qs ++ b → all_stand spot ps a ≡ true → all_stand spot qs b ≡ true → Further spot ps qs a b ⊎ Further spot qs ps b a
one_cut spot [] qs a b e sp sq = inl (record { more = qs; all = refl; standing = sq; rest = e })
one_cut spot (p ∷ ps) [] a b e sp sq = inr (record { more = p ∷ ps; all = refl; standing = sp; rest = sym e })
one_cut spot (p ∷ ps) (q ∷ qs) a b e sp sq =
    let here_p = and_parts (stands spot p.what p.bytes (text_of ps ++ a)) (all_stand (next_spot spot p.what p.bytes) ps a) sp in
    let here_q = and_parts (stands spot q.what q.bytes (text_of qs ++ b)) (all_stand (next_spot spot q.what q.bytes) qs b) sq in
    let text : p.bytes ++ (text_of ps ++ a) ≡ q.bytes ++ (text_of qs ++ b) = sym (append_assoc p.bytes (text_of ps) a) ∙ e ∙ append_assoc q.bytes (text_of qs) b in
    let same = first_same spot p.what q.what p.bytes q.bytes (text_of ps ++ a) (text_of qs ++ b) text here_p.0 here_q.0 in
    let pieces : p ≡ q = same_piece p q same.what same.bytes in
    let rest_q : all_stand (next_spot spot p.what p.bytes) qs b ≡ true = subst (λ (r : Piece). all_stand (next_spot spot r.what r.bytes) qs b ≡ true) (sym pieces) here_q.1 in
    let rest = one_cut (next_spot spot p.what p.bytes) ps qs a b same.rest here_p.1 rest_q in
    subst (λ (r : Piece). Further spot (p ∷ ps) (r ∷ qs) a b ⊎ Further spot (r ∷ qs) (p ∷ ps) b a) pieces
    (⊎_elim (λ f. inl (further_by spot p ps qs a b f)) (λ f. inr (further_by spot p qs ps b a f)) rest)
