use Rattle.std.proofs.Common.{◌≡◌, ◌∙◌, ◌<◌, ◌+◌, ◌-◌, ◌^◌, ◌++◌, ◌∷◌, [], Some, ap, arith, length, rules, slice_get, sym, take}
use Rattle.std.proofs.lemmas.Map.Text.{btree_map_updates_str}
use Rattle.std.proofs.lemmas.List.{length-append}
use Rattle.std.proofs.lemmas.Option.{slice_get-get_or, slice_get_within}
use Rattle.std.specs.BTreeMap as tree
use Rattle.std.specs.Cmp.Lexicographic.{slice_cmp}
use Rattle.std.specs.List.{filter}
use Rattle.std.specs.Ordering.{nat_cmp}
use Rattle.std.specs.Option.{unwrap_or}
use Rattle.kdl.proofs.Finding.DocumentLookups.{named_compared}
use Rattle.kdl.specs.Words.{is_node_named}
use Rattle.cli_shown.proofs.Blocks.{are_ranks, counts_more, name_bytes_are, ranks_more}
use Rattle.cli_shown.proofs.Steps.{filter_short, take_short}
use Rattle.cli_shown.proofs.trail.ranks.Goals as goal

pub overflow_add-rank : goal.overflow_add-rank
overflow_add-rank c =
    let i = c.loop-node.node-index in
    let name = c.value-name.result.now in
    let rank : c.unwrap_or-rank.result ≡ unwrap_or (tree.get_by (λ k. slice_cmp nat_cmp name k.now) c.loop-node.counts) 0 = search rules in
    let is = rank ∙ c.loop-node.invariant.counts name in
    let short = filter_short (is_node_named name) (take i c.args.nodes.now) in
    let taken = take_short i c.args.nodes.now in
    let fits : i < 2 ^ 64 - 1 = search rules in
    omega (arith, short, taken, is, fits)

pub loop-node-preserved : goal.loop-node-preserved
loop-node-preserved c =
    let i = c.loop-node.node-index in
    let ns = c.args.nodes.now in
    let n = c.node-item.result in
    let name = c.value-name.result.now in
    let rs = c.loop-node.ranks.items in
    let there : slice_get ns i ≡ Some n = slice_get-get_or ns i n c.loop-node-test.true ∙ ap Some (sym c.node-item.is) in
    let rank : c.unwrap_or-rank.result ≡ unwrap_or (tree.get_by (λ k. slice_cmp nat_cmp name k.now) c.loop-node.counts) 0 = search rules in
    let is = rank ∙ c.loop-node.invariant.counts name in
    let pushed : c.push.new.self.items ≡ rs ++ c.unwrap_or-rank.result ∷ [] = search rules in
    let updated = btree_map_updates_str name c.loop-node.counts c.insert.new.self (Some (c.unwrap_or-rank.result + 1)) c.in_ok-insert.ensures.updates in
    record {
      len = ap length pushed ∙ length-append rs (c.unwrap_or-rank.result ∷ []) ∙ ap (λ m. m + 1) c.loop-node.invariant.len;
      counts = λ q. counts_more name q ns i c.unwrap_or-rank.result n _ _ there (λ s. named_compared n c.name.result.now name s c.name.ensures.value c.value-name.utf8 c.value-name.ensures) (c.loop-node.invariant.counts q) is (updated q);
      ranks = ranks_more rs ns i c.unwrap_or-rank.result n c.push.new.self.items pushed c.loop-node.invariant.len there (is ∙ ap (λ s. length (filter (is_node_named s) (take i ns))) (name_bytes_are n name c.value-name.utf8 (c.value-name.ensures ∙ c.name.ensures.said))) c.loop-node.invariant.ranks;
    }

pub returns : goal.returns
returns c = are_ranks c.loop-node.ranks.items c.args.nodes.now (λ j n e. let within = slice_get_within c.args.nodes.now j n e in c.loop-node.invariant.ranks j n (omega (arith, within, c.loop-node-test.false)) e)
