use Rattle.dw_tool.proofs.text.+push_digits.Given as goal

-- what is left is shorter
abbrev pub decreases-push_digits : goal.decreases-push_digits
decreases-push_digits g l = l.number
