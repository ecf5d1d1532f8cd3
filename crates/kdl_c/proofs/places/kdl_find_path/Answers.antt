use Rattle.std.proofs.Common.{rules, ◌≡◌, ◌++◌, ℕ, IsSomeAnd, List, None, Option, Some, drop, length, subst, sym}
use Rattle.std.specs.Str.{chars}
use Rattle.kdl.specs.Words.{document_says, said_nodes}
use Rattle.kdl.specs.declared.document.KdlDocument.{KdlDocument}
use Rattle.kdl_path.specs.Paths.{AreIndices, node_at}
use Rattle.kdl_path.specs.PathText.{IsPath, path_says}
use Rattle.kdl_path.specs.declared.path.Path.{Path}
use Rattle.kdl_c.proofs.places.kdl_find_path.Goals as goal

pub returns-clause-found : goal.returns-clause-found
returns-clause-found c = λ r.
    let s = c.put_place-status in
    let there : c.args.document.now.held.document ≡ Some c.deref.result.now = search rules in
    let h = s.ensures.found r in
    subst
    (λ (o : Option KdlDocument). IsSomeAnd o (λ d. (p : Path) × IsPath (chars c.args.place.now) (path_says p) × (is : List ℕ) × AreIndices p.steps.items is (said_nodes (document_says d)) × (s.new.needed ≡ length is) × (s.result ≡ 0 → s.new.indices ≡ is ++ drop (length is) c.args.indices.now)))
    (sym there) (c.in-Ok.path, c.in-Ok.ensures.path, h.0, h.1, h.2, h.3)

pub returns-clause-absent : goal.returns-clause-absent
returns-clause-absent c = λ r.
    let there : c.args.document.now.held.document ≡ Some c.deref.result.now = search rules in
    subst (λ (o : Option KdlDocument). IsSomeAnd o (λ d. (p : Path) × IsPath (chars c.args.place.now) (path_says p) × (node_at p.steps.items (said_nodes (document_says d)) ≡ None))) (sym there)
    (c.in-Ok.path, c.in-Ok.ensures.path, c.put_place-status.ensures.absent r)
