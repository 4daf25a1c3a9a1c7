-- `commands::common`: no word of the list is the one.
use mathlib.Core.Path.{sym}
use borrow.Author.Rules.{rules}
use Rattle.text.proofs.Split.{same_is}
use Rattle.console.specs.Commands.{common}
use Rattle.console.proofs.Passed.{passed_by}
use Rattle.console.proofs.commands.common.Goals as goal

pub returns-in_default-41 : goal.returns-in_default-41
returns-in_default-41 c =
    let a = c.args in
    λ others. sym (passed_by common others a.word.now _ _ _ _ (simp same_is (search rules), (simp same_is (search rules), (simp same_is (search rules), (simp same_is (search rules), (simp same_is (search rules), (simp same_is (search rules), (simp same_is (search rules), (simp same_is (search rules), (simp same_is (search rules), (simp same_is (search rules), (simp same_is (search rules), (simp same_is (search rules), (simp same_is (search rules), (simp same_is (search rules), (simp same_is (search rules), (simp same_is (search rules), (simp same_is (search rules), (simp same_is (search rules), (simp same_is (search rules), (simp same_is (search rules), (simp same_is (search rules), (simp same_is (search rules), (simp same_is (search rules), (simp same_is (search rules), (simp same_is (search rules), (simp same_is (search rules), tt)))))))))))))))))))))))))))
