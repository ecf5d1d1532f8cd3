-- A spot, when a unit is read.
use Rattle.std.proofs.Common.{◌≡◌, ℕ, ◌+◌, ◌-◌, ◌≤◌, true, false, cond, [], ◌++◌, chars, length, length-append, refl, sym, ap, ◌∙◌, subst, append_assoc, append-nil, Fits, w64, arith}
use Rattle.kdl_text.specs.Chars.{Text}
use Rattle.kdl_text.specs.Spans.{bytes}
use Rattle.kdl_report.specs.Places.{newlines, last_line, before, from}
use Rattle.kdl_report.specs.Spots.{IsUnit, BeginsWith, IsNext, IsSpot, IsSpotAt, spot_text}
use Rattle.kdl_report.specs.declared.places.Spot.{Spot}
use Rattle.kdl_report.specs.declared.places.Unit.{Unit as UnitRow}
use Rattle.kdl_report.proofs.PlaceSteps.{Goes, goes, before-from, unit_before, unit_bytes, newlines_more, newlines_unit, last_line_newline, last_line_plain, last_line_unit, any_unit, unit_length, bytes-append, newlines_size, last_line_size, length_bytes}

-- the text around a place, a unit further
record Further (s : Spot) (u : UnitRow) (x : Text) : Type 0 where
  front : before (s.at + u.len) (spot_text s) ≡ before s.at (spot_text s) ++ x
  back : from (s.at + u.len) (spot_text s) ≡ chars u.rest.now
  place : bytes (before (s.at + u.len) (spot_text s)) ≡ s.at + u.len
  number : newlines (before (s.at + u.len) (spot_text s)) ≡ newlines (before s.at (spot_text s)) + cond u.is_newline 1 0
  tail : from s.at (spot_text s) ≡ x ++ chars u.rest.now

further : (s : Spot) (u : UnitRow) (is : IsSpot s) (b : BeginsWith (chars s.rest.now) u) → Further s u b.unit
further s u is b =
    let t = spot_text s in
    let rest : from s.at t ≡ b.unit ++ chars u.rest.now = sym is.rest ∙ b.whole in
    let go : Goes s.at (s.at + u.len) t = goes s.at (s.at + u.len) t is.at (omega arith) in
    let k : (s.at + u.len) - s.at ≡ bytes b.unit = omega (arith, b.len) in
    let step = unit_before b.unit (chars u.rest.now) u.is_newline b.is in
    let e : before (s.at + u.len) t ≡ before s.at t ++ b.unit = go.before ∙ ap (λ z. before s.at t ++ z) (rw (k, rest) step.0) in
    record {
      front = e;
      back = go.from ∙ rw (k, rest) step.1;
      place = rw (e, bytes-append (before s.at t) b.unit, is.at, b.len) refl;
      number = ap newlines e ∙ newlines_more s.at t b.unit (chars u.rest.now) rest ∙ ap (λ z. newlines (before s.at t) + z) (newlines_unit b.unit (chars u.rest.now) u.is_newline b.is);
      tail = rest;
    }

pub next_newline : (n : ℕ) (s : Spot) (u : UnitRow) → IsSpot s → BeginsWith (chars s.rest.now) u → s.at ≤ n → u.len ≤ n - s.at → u.is_newline ≡ true → IsNext n s (record { text = s.text; at = s.at + u.len; line = s.line + 1; column = 1; line_text = u.rest; rest = u.rest })
next_newline n s u is b w fits e =
    let t = spot_text s in
    let f = further s u is b in
    let long = unit_bytes b.unit (chars u.rest.now) u.is_newline b.is in
    let some = any_unit b.unit (chars u.rest.now) u.is_newline b.is ∙ e in
    let unit : IsUnit b.unit (chars u.rest.now) true = subst (IsUnit b.unit (chars u.rest.now)) e b.is in
    let none : last_line (before (s.at + u.len) t) ≡ [] = ap last_line f.front ∙ last_line_newline (before s.at t) b.unit some ∙ last_line_unit b.unit (chars u.rest.now) unit in
    let added : ℕ = cond u.is_newline 1 0 in
    let one : added ≡ 1 = rw e refl in
    record {
      text = refl;
      is = record {
        small = is.small;
        at = f.place;
        rest = sym f.back;
        line = omega (arith, is.line, f.number, one);
        column = rw none refl;
        line_text = rw (none, f.back) refl;
      };
      further = omega (arith, long, b.len);
      within = omega arith;
    }

pub next_plain : (n : ℕ) (s : Spot) (u : UnitRow) → IsSpot s → BeginsWith (chars s.rest.now) u → s.at ≤ n → u.len ≤ n - s.at → u.is_newline ≡ false → IsNext n s (record { text = s.text; at = s.at + u.len; line = s.line; column = s.column + 1; line_text = s.line_text; rest = u.rest })
next_plain n s u is b w fits e =
    let t = spot_text s in
    let f = further s u is b in
    let long = unit_bytes b.unit (chars u.rest.now) u.is_newline b.is in
    let none = any_unit b.unit (chars u.rest.now) u.is_newline b.is ∙ e in
    let last : last_line (before (s.at + u.len) t) ≡ last_line (before s.at t) ++ b.unit = ap last_line f.front ∙ last_line_plain (before s.at t) b.unit none in
    let added : ℕ = cond u.is_newline 1 0 in
    let none_added : added ≡ 0 = rw e refl in
    record {
      text = refl;
      is = record {
        small = is.small;
        at = f.place;
        rest = sym f.back;
        line = omega (arith, is.line, f.number, none_added);
        column = omega (arith, is.column, ap length last, length-append (last_line (before s.at t)) b.unit, unit_length b.unit (chars u.rest.now) u.is_newline b.is e);
        line_text = is.line_text ∙ ap (λ z. last_line (before s.at t) ++ z) f.tail ∙ sym (append_assoc (last_line (before s.at t)) b.unit (chars u.rest.now)) ∙ rw (last, f.back) refl;
      };
      further = omega (arith, long, b.len);
      within = omega arith;
    }

pub at_last : (n : ℕ) (s : Spot) → IsSpot s → s.at ≤ n → before (n - s.at) (from s.at (spot_text s)) ≡ [] → IsSpotAt n (spot_text s) s
at_last n s is w none =
    let t = spot_text s in
    let go : Goes s.at n t = goes s.at n t is.at w in
    record {
      text = refl;
      is = is;
      within = w;
      before = sym (go.before ∙ rw none (append-nil (before s.at t)));
      from = sym (go.from ∙ rw none at (before-from (n - s.at) (from s.at t)));
    }

-- the numbers of a spot before another unit
pub record FitsMore (s : Spot) : Type 0 where
  pub line : Fits w64 (s.line + 1)
  pub column : Fits w64 (s.column + 1)

pub fits_more : (s : Spot) → IsSpot s → FitsMore s
fits_more s is =
    let t = spot_text s in
    let front = before s.at t in
    let size : bytes front + bytes (from s.at t) ≡ bytes t = sym (bytes-append front (from s.at t)) ∙ ap bytes (before-from s.at t) in
    record {
      line = omega (arith, is.line, is.small, size, newlines_size front, length_bytes front);
      column = omega (arith, is.column, is.small, size, last_line_size front, length_bytes front);
    }
