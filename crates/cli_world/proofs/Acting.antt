-- What is done with a file, and with files in turn.
use Rattle.std.proofs.Common.{◌≡◌, ◌∙◌, ℕ, ◌+◌, max, List, [], ◌∷◌, ◌++◌, Global, Option, Some, None, String, Vec, string_bytes, ap, arith, codes, inl, refl, subst, sym}
use Rattle.std.proofs.lemmas.List.{append-nil}
use Rattle.std.proofs.lemmas.Str.{IsUtf8-string_bytes}
use Rattle.std.specs.Io.KnownBytes.{Appends}
use Rattle.cli_world.specs.Acts.{Acts, Does, Each, Effect, Happens, InTurn, IsUnprinted, Prints, Replaces}
use Rattle.cli_world.specs.Acts.Acts.{acts, lost, refuses}
use Rattle.cli_world.specs.Acts.Does.{does, memory}
use Rattle.cli_world.specs.Acts.Each.{none, more}
use Rattle.cli_world.specs.Acts.Effect.{prints, reports, replaces}
use Rattle.cli_world.specs.Acts.Happens.{printed, unprinted, reported, replaced, unreplaced}
use Rattle.cli_world.specs.Files.{Has}
use Rattle.cli_world.specs.Seen.{IsLost, IsUnread, Reports, Seen, problem}
use Rattle.cli_world.specs.Statuses.{code_of}
use Rattle.cli_world.specs.Tallies.{counted, plain, worst}
use Rattle.cli_world.specs.declared.status.Status.{Status}
use Rattle.cli_world.specs.declared.status.Status.TheVariants.{Done, Failed}
use Rattle.cli_world.specs.declared.tally.Tally.{Tally}
use Rattle.cli_world.specs.declared.world.Unread.{Unread}
use Rattle.cli_world.specs.declared.world.Unread.TheVariants.{Lost, NotUtf8}

-- a text is printed
pub prints_happens : (name bytes : List ℕ) (old new : Seen) (t r : Tally) → Prints bytes old new → r ≡ t → Happens name old new (prints bytes t) r
prints_happens name bytes old new t r p e = subst (λ (x : Tally). Happens name old new (prints bytes t) x) (sym e) (printed p)

pub unprinted_happens : (name bytes : List ℕ) (old new : Seen) (t r : Tally) (s : Status) → s ≡ Failed → IsUnprinted bytes old new → r ≡ plain s → Happens name old new (prints bytes t) r
unprinted_happens name bytes old new t r s is p e = subst (λ (x : Tally). Happens name old new (prints bytes t) x) (sym (e ∙ ap plain is)) (unprinted p)

-- a file is replaced
pub replaces_happens : (name bytes : List ℕ) (old new : Seen) (r : Tally) → Replaces name bytes old new → r ≡ plain Done → Happens name old new (replaces bytes) r
replaces_happens name bytes old new r p e = subst (λ (x : Tally). Happens name old new (replaces bytes) x) (sym e) (replaced p)

pub unreplaced_happens : (name bytes : List ℕ) (old new : Seen) (r : Tally) (s : Status) → s ≡ Failed → IsLost name old new → r ≡ plain s → Happens name old new (replaces bytes) r
unreplaced_happens name bytes old new r s is p e = subst (λ (x : Tally). Happens name old new (replaces bytes) x) (sym (e ∙ ap plain is)) (unreplaced p)

-- a text is reported
pub reports_happens : (name text : List ℕ) (old new : Seen) (r : Tally) (s : Status) → Reports text old new → r ≡ plain s → Happens name old new (reports text s) r
reports_happens name text old new r s p e = subst (λ (x : Tally). Happens name old new (reports text s) x) (sym e) (reported p)

-- what happens is one of the effects
pub does_this : (P : Effect → Type 0) (name : List ℕ) (old new : Seen) (e : Effect) (t : Tally) → P e → Happens name old new e t → Does P name old new t
does_this P name old new e t p h = does p h

-- memory ran out
pub memory_is : (P : Effect → Type 0) (name : List ℕ) (old new : Seen) (t : Tally) → Reports (problem name (codes "out of memory")) old new → t ≡ plain Failed → Does P name old new t
memory_is P name old new t r e = subst (λ (x : Tally). Does P name old new x) (sym e) (memory r)

-- one of these effects is one of those
pub Does-map : (P Q : Effect → Type 0) → ((e : Effect) → P e → Q e) → (name : List ℕ) (old new : Seen) (t : Tally) → Does P name old new t → Does Q name old new t
Does-map P Q f name old new _ (does {e} {t} p h) = does (f e p) h
Does-map P Q f name old new _ (memory r) = memory r

-- a file has a text, and what is to be done with it is done
pub acts_on : (act not_utf8 : List ℕ → Effect → Type 0) (name : List ℕ) (old mid new : Seen) (s : String Global) (text : List ℕ) (t : Tally) → Has old.files name (string_bytes s)
    → mid ≡ old → text ≡ string_bytes s → Does (act text) name mid new t → Acts act not_utf8 name old new t
acts_on act not_utf8 name old mid new s text t has same is d =
    let d' = subst (λ (x : Seen). Does (act text) name x new t) same d in
    acts has (IsUtf8-string_bytes s) (subst (λ (x : List ℕ). Does (act x) name old new t) is d')

-- the bytes of a file are not UTF-8, and what is to be done then is done
pub refuses_bytes : (act not_utf8 : List ℕ → Effect → Type 0) (name : List ℕ) (old mid new : Seen) (u : Unread) (v : Vec ℕ Global) (bytes : List ℕ) (t : Tally)
    → u ≡ NotUtf8 v → IsUnread name old mid u → bytes ≡ v.items → Does (not_utf8 bytes) name mid new t → Acts act not_utf8 name old new t
refuses_bytes act not_utf8 name old mid new u v bytes t is unread same d =
    let bad = subst (IsUnread name old mid) is unread in
    refuses bad.1 bad.2 (subst (λ (b : List ℕ). Does (not_utf8 b) name old new t) same (subst (λ (x : Seen). Does (not_utf8 bytes) name x new t) bad.0 d))

-- a file was not read
pub lost_is : (act not_utf8 : List ℕ → Effect → Type 0) (name : List ℕ) (old new : Seen) (u : Unread) (t : Tally) → u ≡ Lost → IsUnread name old new u → t ≡ plain Failed → Acts act not_utf8 name old new t
lost_is act not_utf8 name old new u t is unread e = subst (λ (x : Tally). Acts act not_utf8 name old new x) (sym e) (lost (subst (IsUnread name old new) is unread))

-- nothing is appended
pub appends_nothing : (o : Option (List ℕ)) → Appends o o []
appends_nothing None = tt
appends_nothing (Some xs) = sym (append-nil xs)

-- nothing is printed
pub nothing_happens : (name : List ℕ) (s : Seen) (t : Tally) → Happens name s s (prints [] t) t
nothing_happens name s t = printed (record { out = inl (appends_nothing s.out.bytes, refl); err = refl; files = (λ p. refl, refl) })

-- one more file
pub each_more : (act : List ℕ → Seen → Seen → Tally → Type 0) (names names' : List (List ℕ)) (name : List ℕ) (ts : List Tally) (t : Tally) (old mid new : Seen)
    → Each act names old mid ts → act name mid new t → names' ≡ names ++ (name ∷ []) → Each act names' old new (ts ++ (t ∷ []))
each_more act names names' name ts t old mid new es a e = subst (λ (x : List (List ℕ)). Each act x old new (ts ++ (t ∷ []))) (sym e) (more es a)

-- the worst status of one more
pub worst-push : (ts : List Tally) (t : Tally) → worst (ts ++ (t ∷ [])) ≡ max (worst ts) (code_of t.status)
worst-push [] t = omega arith
worst-push (x ∷ xs) t = let h = worst-push xs t in omega (arith, h)

-- the sum of the counts of one more
pub counted-push : (ts : List Tally) (t : Tally) → counted (ts ++ (t ∷ [])) ≡ counted ts + t.count
counted-push [] t = omega arith
counted-push (x ∷ xs) t = let h = counted-push xs t in omega (arith, h)

-- no file
pub no_file : (act : List ℕ → Seen → Seen → Tally → Type 0) (s : Seen) → InTurn act [] s s Done
no_file act s = ([], none, refl)

-- the same with one more file
pub one_more : (act : List ℕ → Seen → Seen → Tally → Type 0) (names names' : List (List ℕ)) (name : List ℕ) (status status' : Status) (t : Tally) (old mid new : Seen)
    → InTurn act names old mid status → act name mid new t → names' ≡ names ++ (name ∷ []) → code_of status' ≡ max (code_of status) (code_of t.status) → InTurn act names' old new status'
one_more act names names' name status status' t old mid new (ts, es, w) a e is =
    (ts ++ (t ∷ []), each_more act names names' name ts t old mid new es a e, (let h = worst-push ts t in omega (arith, h, w, is)))
