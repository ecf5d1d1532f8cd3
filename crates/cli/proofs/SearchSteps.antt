-- Files that are searched one after another.
use Rattle.std.proofs.Common.{◌≡◌, ◌∙◌, ◌||◌, ◌+◌, ◌==◌, ℕ, max, zero, suc, Bool, false, nat_lt, List, [], ◌∷◌, ◌++◌, ap, arith, refl, sym}
use Rattle.std.specs.Prelude.{if◌then◌else◌}
use Rattle.std.proofs.lemmas.Bool.{lt-ltb}
use Rattle.cli_world.specs.Acts.{Each}
use Rattle.cli_world.specs.Acts.Each.{none}
use Rattle.cli_world.specs.Seen.{Seen}
use Rattle.cli_world.specs.Statuses.{code_of}
use Rattle.cli_world.specs.Tallies.{counted, worst}
use Rattle.cli_world.specs.declared.status.Status.{Status}
use Rattle.cli_world.specs.declared.status.Status.TheVariants.{Done}
use Rattle.cli_world.specs.declared.tally.Tally.{Tally}
use Rattle.cli_world.proofs.Acting.{counted-push, each_more, worst-push}
use Rattle.cli.specs.Searches.{SearchesFile, SearchesFiles}
use Rattle.cli.specs.declared.query.Search.{Search}

-- the files so far, the worst of their statuses, and whether nodes are selected in one of them
pub record SearchedSoFar (s : Search) (names : List (List ℕ)) (old new : Seen) (status : Status) (hit : Bool) : Type 0 where
  pub tallies : List Tally
  pub each : Each (SearchesFile s) names old new tallies
  pub worst : code_of status ≡ worst tallies
  pub hits : hit ≡ nat_lt 0 (counted tallies)

pub no_files_yet : (s : Search) (seen : Seen) → SearchedSoFar s [] seen seen Done false
no_files_yet s seen = record { tallies = []; each = none; worst = refl; hits = refl }

some_more : (a b : ℕ) → nat_lt 0 a || nat_lt 0 b ≡ nat_lt 0 (a + b)
some_more zero b = let e : b ≡ 0 + b = omega arith in ap (nat_lt 0) e
some_more (suc a) b = ap (λ (c : Bool). c || nat_lt 0 b) (lt-ltb 0 (suc a) (omega arith)) ∙ sym (lt-ltb 0 (suc a + b) (omega arith))

-- one more file
pub searched_more : (s : Search) (names names' : List (List ℕ)) (name : List ℕ) (old mid new : Seen) (t : Tally) (status status' : Status) (hit hit' : Bool) → SearchedSoFar s names old mid status hit → SearchesFile s name mid new t
    → names' ≡ names ++ (name ∷ []) → code_of status' ≡ max (code_of status) (code_of t.status) → hit' ≡ hit || nat_lt 0 t.count → SearchedSoFar s names' old new status' hit'
searched_more s names names' name old mid new t status status' hit hit' so f e is either = record {
  tallies = so.tallies ++ (t ∷ []);
  each = each_more (SearchesFile s) names names' name so.tallies t old mid new so.each f e;
  worst = let h = worst-push so.tallies t in let w = so.worst in omega (arith, h, w, is);
  hits = either ∙ ap (λ (b : Bool). b || nat_lt 0 t.count) so.hits ∙ some_more (counted so.tallies) t.count ∙ ap (nat_lt 0) (sym (counted-push so.tallies t));
}

none_counted : (n code : ℕ) → code ≡ (if nat_lt 0 n then 0 else 1) → code ≡ (if n == 0 then 1 else 0)
none_counted zero code e = e
none_counted (suc n) code e = grind (arith, e)

-- all files
pub searched_all : (s : Search) (names : List (List ℕ)) (old new : Seen) (status last result : Status) (hit : Bool) → SearchedSoFar s names old new status hit
    → code_of last ≡ (if hit then 0 else 1) → code_of result ≡ max (code_of status) (code_of last) → SearchesFiles s names old new result
searched_all s names old new status last result hit so l r =
    let one = none_counted (counted so.tallies) (code_of last) (l ∙ ap (λ (b : Bool). if b then 0 else 1) so.hits) in
    (so.tallies, so.each, r ∙ ap (λ (n : ℕ). max n (code_of last)) so.worst ∙ ap (max (worst so.tallies)) one)
