use Rattle.wl_manager_tests.proofs.manager.threads.turns.two_agents_take_turns_and_are_counted.Given as goal

-- the ledger that was just made
abbrev pub ghosts-two_agents : goal.ghosts-two_agents
ghosts-two_agents g a = record { name = a.blank.name; parts = a.blank.parts }
