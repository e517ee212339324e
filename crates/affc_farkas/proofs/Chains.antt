-- Rows that stand first in a chain.
use Rattle.std.proofs.Common.{◌≡◌, ℕ, ◌<◌, List, [], ◌∷◌, ◌++◌, length, slice_index_or, refl, sym, ap, subst, ◌∙◌}
use Rattle.std.proofs.lemmas.List.{append-nil, append_assoc, get_or_append_left, get_or_read}
use Rattle.affc_rows.specs.Forms.{Affine}
use Rattle.affc_farkas.specs.Multiples.{zero_row, row_at}
use Rattle.affc_farkas.specs.Chain.{rows_of, IsFront, IsChain}
use Rattle.affc_farkas.specs.declared.chain.Added.{Added, Nothing, More'}

pub front_at : (front rows : List Affine) (n : ℕ) (d : Affine) → IsFront front rows → n < length front → slice_index_or rows n d ≡ slice_index_or front n d
front_at front rows n d h lt = ap (λ l. slice_index_or l n d) h.1 ∙ get_or_append_left front h.0 d n lt

pub front_whole : (rows : List Affine) → IsFront rows rows
front_whole rows = ([], sym (append-nil rows))

pub front_front : (a b c : List Affine) → IsFront a b → IsFront b c → IsFront a c
front_front a b c h k = (h.0 ++ k.0, k.1 ∙ ap (λ l. l ++ k.0) h.1 ∙ append_assoc a h.0 k.0)

pub front_more : (a b : List Affine) (f : Affine) → IsFront a b → IsFront a (b ++ f ∷ [])
front_more a b f h = front_front a b (b ++ f ∷ []) h (f ∷ [], refl)

pub base_front : (base : List Affine) (added : Added) → IsFront base (rows_of base added)
base_front base Nothing = front_whole base
base_front base (More' form negated constant number p before q far) = front_more base (rows_of base before) _ (base_front base before)

-- the chain that the first frame's further link leads to
abbrev pub far_of : Added → Added
far_of Nothing = Nothing
far_of (More' form negated constant number p before q far) = far

far_front : (columns : ℕ) (base : List Affine) (a : Added) → IsChain columns base a → IsFront (rows_of base (far_of a)) (rows_of base a)
far_front columns base Nothing h = front_whole base
far_front columns base (More' form negated constant number p before q far) h = front_more (rows_of base far) (rows_of base before) _ h.4

far_chain : (columns : ℕ) (base : List Affine) (a : Added) → IsChain columns base a → IsChain columns base (far_of a)
far_chain columns base Nothing h = tt
far_chain columns base (More' form negated constant number p before q far) h = h.3

-- two links
pub twice_front : (columns : ℕ) (base : List Affine) (a b c : Added) → IsChain columns base a → far_of a ≡ b → far_of b ≡ c → IsFront (rows_of base c) (rows_of base a)
twice_front columns base a b c h d e =
    let f = subst (λ z. IsFront (rows_of base z) (rows_of base a)) d (far_front columns base a h) in
    let k = subst (IsChain columns base) d (far_chain columns base a h) in
    let g = subst (λ z. IsFront (rows_of base z) (rows_of base b)) e (far_front columns base b k) in
    front_front (rows_of base c) (rows_of base b) (rows_of base a) g f

-- a row of the system has its number in the chain too
pub base_at : (columns : ℕ) (base rows : List Affine) (added : Added) (n : ℕ) (row : Affine) → rows ≡ base → n < length rows → row ≡ slice_index_or rows n row
    → row ≡ row_at columns (rows_of base added) n
base_at columns base rows added n row e lt r =
    let d = zero_row columns in
    get_or_read rows n row lt r d ∙ ap (λ l. slice_index_or l n d) e ∙ sym (front_at base (rows_of base added) n d (base_front base added) (subst (λ l. n < length l) e lt))
