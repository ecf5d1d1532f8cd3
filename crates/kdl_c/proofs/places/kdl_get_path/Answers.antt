use Rattle.std.proofs.Common.{rules, ◌≡◌, IsSomeAnd, None, Option, Some, subst, sym, take}
use Rattle.std.specs.Str.{chars}
use Rattle.kdl.specs.Words.{document_says}
use Rattle.kdl.specs.declared.document.KdlDocument.{KdlDocument}
use Rattle.c_calls.specs.Says.{SaysEntry}
use Rattle.kdl_path.specs.Paths.{entry_at}
use Rattle.kdl_path.specs.PathText.{IsPath, path_says}
use Rattle.kdl_path.specs.declared.path.Path.{Path}
use Rattle.kdl_c.proofs.places.kdl_get_path.Goals as goal

pub returns-clause-says : goal.returns-clause-says
returns-clause-says c = λ r.
    let s = c.put_entry_at-status in
    let there : c.args.document.now.held.document ≡ Some c.deref.result.now = search rules in
    subst (λ (o : Option KdlDocument). IsSomeAnd o (λ d. (p : Path) × IsPath (chars c.args.place.now) (path_says p) × IsSomeAnd (entry_at p (document_says d)) (λ e. SaysEntry (take s.new.string_len s.new.strings) s.new.row e))) (sym there)
    (c.in-Ok.path, c.in-Ok.ensures.path, s.ensures.says r)

pub returns-clause-absent : goal.returns-clause-absent
returns-clause-absent c = λ r.
    let there : c.args.document.now.held.document ≡ Some c.deref.result.now = search rules in
    subst (λ (o : Option KdlDocument). IsSomeAnd o (λ d. (p : Path) × IsPath (chars c.args.place.now) (path_says p) × (entry_at p (document_says d) ≡ None))) (sym there)
    (c.in-Ok.path, c.in-Ok.ensures.path, c.put_entry_at-status.ensures.absent r)
