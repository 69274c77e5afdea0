use Rattle.lane_core.proofs.queue.QueueLanesLanes.make.Given as goal

abbrev pub ghosts-part : goal.ghosts-part
ghosts-part g a = record { capacity = a.cap; origin = a.origin }
