mod CasesHold
