mod Examples
mod LawExamples
