use Rattle.std.proofs.Common.{ℕ, ◌∙◌, rules}
use Rattle.std.proofs.lemmas.Iterator.Consumers.{YieldsList-from_first}
use Rattle.std.proofs.lemmas.Iterator.Search.{find_from_yields_List}
use borrow.Author.Tests.{tests}
use Rattle.tree_rule.specs.Nodes.{from, children, entries_of}
use Rattle.tree_rule.specs.declared.children.Entries.{Entries}
use Rattle.tree.specs.Questions.{is_named}
use Rattle.tree.proofs.Finding.{found_under}
use Rattle.tree.proofs.tree.Tree.value_under.Goals as goal

pub returns : goal.returns
returns c = λ es p.
    let ns = c.args.self.now.nodes.now in
    let found = find_from_yields_List (λ (p : ℕ × ℕ). is_named ns c.args.self.now.text.now c.args.name.now p.0) c.find.new.self _ c.find.result c.find.ensures.ran
    (YieldsList-from_first (λ x. x) (λ (s : Entries). entries_of (from s.children.nodes.now s.children.end s.children.next)) (entries_of (children ns c.args.map)) (cc))
    (λ x b q k. search (rules, tests)) in
    found_under ns c.args.self.now.text.now c.args.name.now c.args.map c.find.result c.args.self.now.formed c.requires found es p
    ∙ search (rules, tests)
