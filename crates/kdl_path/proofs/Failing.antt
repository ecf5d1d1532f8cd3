-- What failures mean.
use Rattle.std.proofs.Common.{◌≡◌, ℕ, List, Bool, true, false, ◌&&◌, Option, None, Some, IsSome, IfErr, IfOk, IsErr, IsErrAnd, Result, Ok, Err, ◌∙◌, sym, subst}
use Rattle.std.proofs.lemmas.Option.{none-some}
use Rattle.std.specs.Str.{chars}
use Rattle.kdl.specs.Words.{IsDocument, IsNodeText, NodeData, Nodes, Value}
use Rattle.kdl_text.specs.Failures.{IsSyntax, TellsOf}
use Rattle.kdl_text.specs.declared.error.KdlError.{KdlError}
use Rattle.kdl_text.specs.declared.error.ParseFailure.{ParseFailure}
use Rattle.kdl_text.specs.declared.error.ParseFailure.TheVariants as parse
use Rattle.c_calls.specs.Entries.{IsValueText}
use Rattle.kdl_path.specs.Edits.{HasPlace, named_at}
use Rattle.kdl_path.specs.Failures.{InsertFails, IsUnset, RemoveFails, SetFails, TextFails, edit_of}
use Rattle.kdl_path.specs.Internal.Failing.{MissesIf, NoNodeIf, NoValueIf}
use Rattle.kdl_path.specs.declared.failure.EditFailure.{EditFailure}
use Rattle.kdl_path.specs.declared.failure.EditFailure.TheVariants as edit
use Rattle.kdl_path.specs.declared.path.Path.{Path}

-- a call that failed with the failure x
pub err_is : {T E : Type 0} (r : Result T E) (P : E → Type 0) (x : E) → IsErrAnd r (λ e. e ≡ x) → P x → IfErr r P
err_is (Ok v) P x h k = absurd h
err_is (Err e) P x h k = subst P (sym h) k

pub no_ok : {T E : Type 0} (r : Result T E) (P : T → Type 0) → IsErr r → IfOk r P
no_ok (Ok v) P h = absurd (cc)
no_ok (Err e) P h = tt

pub all_ok : {T E : Type 0} (r : Result T E) (P : T → Type 0) → ((x : T) → P x) → IfOk r P
all_ok (Ok v) P h = h v
all_ok (Err e) P h = tt

pub none_is_some : {A : Type 0} (o : Option A) → o ≡ None → IsSome o → ⊥
none_is_some None h s = absurd (cc)
none_is_some (Some x) h s = absurd (none-some x (sym h))

-- both tests
pub second_true : (b c r : Bool) → r ≡ (b && c) → r ≡ true → c ≡ true
second_true true c r e h = sym e ∙ h
second_true false c r e h = absurd (cc)

pub second_false : (b c r : Bool) → r ≡ (b && c) → r ≡ false → b ≡ true → c ≡ false
second_false true c r e h k = sym e ∙ h
second_false false c r e h k = absurd (cc)

-- the failures of parts
pub misses : {P Q : Type 0} (e : EditFailure) → (P → Q) → MissesIf P e → MissesIf Q e
misses (edit.Missing m) f h = f h
misses edit.Memory f h = h
misses (edit.Text x) f h = h
misses edit.Value f h = h
misses (edit.Node x) f h = h
misses edit.NotNode f h = h

pub memory_misses : (Q : Type 0) (e : EditFailure) → e ≡ edit.Memory → MissesIf Q e
memory_misses Q e h = subst (MissesIf Q) (sym h) tt

-- a text that is no document
pub text_fails : (A : Type 0) (P : EditFailure → Type 0) (text : List ℕ) (f : ParseFailure) → (IsSyntax {A = A} (Err f) → (x : Nodes) → IsDocument (chars text) x → ⊥) → TellsOf text f → ((e : KdlError) → TextFails text e → P (edit.Text e)) → P edit.Memory → P (edit_of f)
text_fails A P text (parse.Syntax e) h k with_faults memory = with_faults e (h tt, k)
text_fails A P text parse.Memory h k with_faults memory = memory

-- those of `set`
pub value_set : (p : Path) (given text : List ℕ) (create : Bool) (e : EditFailure) → NoValueIf ((v : Value) → IsValueText (chars given) v → ⊥) e → SetFails p given text create e
value_set p given text create edit.Value h = h
value_set p given text create edit.Memory h = tt
value_set p given text create (edit.Text x) h = absurd h
value_set p given text create (edit.Node x) h = absurd h
value_set p given text create edit.NotNode h = absurd h
value_set p given text create (edit.Missing m) h = absurd h

pub missing_set : (p : Path) (given text : List ℕ) (create : Bool) (x : Nodes) (e : EditFailure) → IsDocument (chars text) x → MissesIf (IsUnset p create x) e → SetFails p given text create e
missing_set p given text create x (edit.Missing m) d h = (x, d, h)
missing_set p given text create x edit.Memory d h = tt
missing_set p given text create x (edit.Text y) d h = absurd h
missing_set p given text create x edit.Value d h = absurd h
missing_set p given text create x (edit.Node y) d h = absurd h
missing_set p given text create x edit.NotNode d h = absurd h

-- those of `remove`
pub missing_remove : (p : Path) (text : List ℕ) (x : Nodes) (e : EditFailure) → IsDocument (chars text) x → MissesIf (named_at p x ≡ None) e → RemoveFails p text e
missing_remove p text x (edit.Missing m) d h = (x, d, h)
missing_remove p text x edit.Memory d h = tt
missing_remove p text x (edit.Text y) d h = absurd h
missing_remove p text x edit.Value d h = absurd h
missing_remove p text x (edit.Node y) d h = absurd h
missing_remove p text x edit.NotNode d h = absurd h

-- those of `insert`
pub node_insert : (p : Path) (given text : List ℕ) (e : EditFailure) → NoNodeIf ((y : NodeData) → IsNodeText (chars given) y → ⊥) e → InsertFails p given text e
node_insert p given text (edit.Node x) h = h
node_insert p given text edit.Memory h = tt
node_insert p given text (edit.Text x) h = absurd h
node_insert p given text edit.Value h = absurd h
node_insert p given text edit.NotNode h = absurd h
node_insert p given text (edit.Missing m) h = absurd h

pub missing_insert : (p : Path) (given text : List ℕ) (x : Nodes) (e : EditFailure) → IsDocument (chars text) x → MissesIf (HasPlace p.steps.items x → ⊥) e → InsertFails p given text e
missing_insert p given text x (edit.Missing m) d h = (x, d, h)
missing_insert p given text x edit.Memory d h = tt
missing_insert p given text x (edit.Text y) d h = absurd h
missing_insert p given text x edit.Value d h = absurd h
missing_insert p given text x (edit.Node y) d h = absurd h
missing_insert p given text x edit.NotNode d h = absurd h
