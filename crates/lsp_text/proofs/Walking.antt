-- A walk over a text, which may begin at a place in it.
use Rattle.std.proofs.Common.{◌≡◌, ℕ, zero, suc, ◌+◌, ◌-◌, ◌≤◌, ◌==◌, [], ◌∷◌, length, take, drop, refl, sym, ap, ◌∙◌, zero-add, arith, inl, inr}
use Rattle.std.proofs.lemmas.Bool.{cases_Bool, cond-true, cond-false}
use Rattle.std.proofs.lemmas.List.{drop-drop}
use Rattle.std.proofs.lemmas.Str.{len_utf8_bounds}
use Rattle.std.proofs.Math.Seq.{take-add}
use Rattle.std.specs.Char.{len_utf8}
use Rattle.lsp_text.specs.declared.position.Encoding.{Encoding}
use Rattle.lsp_text.specs.declared.position.Encoding.TheVariants.{Utf8, Utf16, Utf32}
use Rattle.lsp_text.specs.declared.position.Position.{Position}
use Rattle.lsp_text.specs.Positions.{Text, ends_line, index_of_byte, position, size, units}
use Rattle.lsp_text.specs.Steps.{IsPlace, stepped, walked}
use Rattle.lsp_text.proofs.Inverse.{byte_index, front_fits, front_le}
use Rattle.lsp_text.proofs.Places.{size-append, walked_position}

-- ---- one step

units_most : (e : Encoding) (c : ℕ) → units e c ≤ len_utf8 c
units_most Utf8 c = omega arith
units_most Utf16 c = grind arith
units_most Utf32 c = (len_utf8_bounds c).0

pub record IsNear (e : Encoding) (p q : Position) (c : ℕ) : Type 0 where
  pub line : q.line ≤ p.line + len_utf8 c
  pub character : q.character ≤ p.character + len_utf8 c

pub step_near : (e : Encoding) (p : Position) (c : ℕ) (t : Text) → IsNear e p (stepped e p c t) c
step_near e p c t = elim (cases_Bool (ends_line c t)) [
  | inl h ↦
      let s : stepped e p c t ≡ record { line = p.line + 1; character = 0 } = cond-true _ _ _ h in
      rw s (record { line = omega (arith, (len_utf8_bounds c).0); character = omega arith })
  | inr h ↦ elim (cases_Bool (c == 13)) [
    | inl r ↦
        let s : stepped e p c t ≡ p = cond-false _ _ _ h ∙ cond-true _ _ _ r in
        rw s (record { line = omega arith; character = omega arith })
    | inr r ↦
        let s : stepped e p c t ≡ record { line = p.line; character = p.character + units e c } = cond-false _ _ _ h ∙ cond-false _ _ _ r in
        rw s (record { line = omega arith; character = omega (arith, units_most e c) })
  ]
]

pub byte_step : (n c : ℕ) (s t : Text) → s ≡ c ∷ t → len_utf8 c ≤ n → index_of_byte n s ≡ suc (index_of_byte (n - len_utf8 c) t)
byte_step n c s t e h = ap (index_of_byte n) e ∙ ap length (front_fits Utf8 n c t h)

-- ---- a walk in two parts

walked_nil : (e : Encoding) (p : Position) (k : ℕ) → walked e p k [] ≡ p
walked_nil e p zero = refl
walked_nil e p (suc k) = refl

walked_parts : (e : Encoding) (p : Position) (k j m : ℕ) (t : Text) → m ≡ k + j → walked e p m t ≡ walked e (walked e p k t) j (drop k t)
walked_parts e p zero j m t h = ap (λ z. walked e p z t) (h ∙ zero-add j)
walked_parts e p (suc k) j zero t h = absurd (omega (arith, h))
walked_parts e p (suc k) j (suc m) [] h = sym (walked_nil e p j)
walked_parts e p (suc k) j (suc m) (c ∷ t) h = walked_parts e (stepped e p c t) k j m t (omega (arith, h))

byte_parts : (k n : ℕ) (t : Text) → size Utf8 (take k t) ≤ n → k ≤ length t → index_of_byte n t ≡ k + index_of_byte (n - size Utf8 (take k t)) (drop k t)
byte_parts zero n t h l = let z : n - 0 ≡ n = omega arith in sym (zero-add _ ∙ ap (λ m. index_of_byte m t) z)
byte_parts (suc k) n [] h l = absurd (omega arith)
byte_parts (suc k) n (c ∷ t) h l =
    let m : (n - len_utf8 c) - size Utf8 (take k t) ≡ n - (len_utf8 c + size Utf8 (take k t)) = omega arith in
    let i = byte_parts k (n - len_utf8 c) t (omega arith) (omega arith) in
    let f = byte_step n c (c ∷ t) t refl (omega arith) in
    omega (arith, f, i, ap (λ z. index_of_byte z (drop k t)) m)

near_walk : (e : Encoding) (p : Position) (k : ℕ) (t : Text) → ((walked e p k t).line + size Utf8 (drop k t) ≤ p.line + size Utf8 t) × ((walked e p k t).character + size Utf8 (drop k t) ≤ p.character + size Utf8 t)
near_walk e p zero t = (omega arith, omega arith)
near_walk e p (suc k) [] = (omega arith, omega arith)
near_walk e p (suc k) (c ∷ t) =
    let i = near_walk e (stepped e p c t) k t in
    let s = step_near e p c t in
    (omega (arith, i.0, s.line), omega (arith, i.1, s.character))

-- ---- a place

pub place_near : (e : Encoding) (t rest : Text) (at : ℕ) (p : Position) → IsPlace e t rest at p → (p.line + size Utf8 rest ≤ size Utf8 t) × (p.character + size Utf8 rest ≤ size Utf8 t)
place_near e t rest at p i =
    let k = index_of_byte at t in
    let o : Position = record { line = 0; character = 0 } in
    let w : p ≡ walked e o k t = i.2 ∙ sym (walked_position e k t) in
    let n = near_walk e o k t in
    (omega (arith, n.0, ap (λ (q : Position). q.line) w, ap (size Utf8) i.0), omega (arith, n.1, ap (λ (q : Position). q.character) w, ap (size Utf8) i.0))

-- from a place on to a byte
pub record IsReached (e : Encoding) (t rest : Text) (at n left : ℕ) (p : Position) : Type 0 where
  pub position : p ≡ position e (index_of_byte n t) t
  pub place : IsPlace e t rest (n - left) p

pub reached : (e : Encoding) (t rest rest' : Text) (at n left : ℕ) (p q : Position) → IsPlace e t rest at p → at ≤ n → q ≡ walked e p (index_of_byte (n - at) rest) rest
    → rest' ≡ drop (index_of_byte (n - at) rest) rest → left + size Utf8 (take (index_of_byte (n - at) rest) rest) ≡ n - at → IsReached e t rest' at n left q
reached e t rest rest' at n left p q i h w r l =
    let o : Position = record { line = 0; character = 0 } in
    let k = index_of_byte at t in
    let j = index_of_byte (n - at) (drop k t) in
    let few : k ≤ length t = front_le Utf8 at t in
    let few' : index_of_byte n t ≤ length t = front_le Utf8 n t in
    let whole : index_of_byte n t ≡ k + j = byte_parts k n t (omega (arith, i.1, h)) few ∙ ap (λ z. k + index_of_byte (n - z) (drop k t)) (sym i.1) in
    let jr : index_of_byte (n - at) rest ≡ j = ap (index_of_byte (n - at)) i.0 in
    let part : size Utf8 (take (k + j) t) ≡ size Utf8 (take k t) + size Utf8 (take j (drop k t)) = ap (size Utf8) (take-add k j t) ∙ size-append Utf8 (take k t) (take j (drop k t)) in
    let ended : n - left ≡ size Utf8 (take (index_of_byte n t) t) =
    omega (arith, i.1, l, h, part, ap (λ z. size Utf8 (take z t)) whole, ap (λ z. size Utf8 (take z rest)) jr, ap (λ z. size Utf8 (take j z)) i.0) in
    let here : index_of_byte (n - left) t ≡ index_of_byte n t = ap (λ z. index_of_byte z t) ended ∙ byte_index (index_of_byte n t) t few' in
    let p' : p ≡ walked e o k t = i.2 ∙ sym (walked_position e k t) in
    let at_byte : q ≡ position e (index_of_byte n t) t =
    w ∙ ap (λ z. walked e z (index_of_byte (n - at) rest) rest) p' ∙ ap (λ z. walked e (walked e o k t) (index_of_byte (n - at) z) z) i.0 ∙ sym (walked_parts e o k j (index_of_byte n t) t whole)
    ∙ walked_position e (index_of_byte n t) t in
    record {
      position = at_byte;
      place = (
        r ∙ ap (λ z. drop (index_of_byte (n - at) z) z) i.0 ∙ drop-drop j k t ∙ ap (λ z. drop z t) (sym (here ∙ whole)),
        ended ∙ ap (λ z. size Utf8 (take z t)) (sym here),
        at_byte ∙ ap (λ z. position e z t) (sym here),
      );
    }
